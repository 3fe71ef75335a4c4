-- A person, as a tree (src/values.rt): a struct of a number, whose pointers point to a name and to an address, which is a struct
-- that points to a city.
use Rattle.std.specs.Prelude.{◌≡◌, ◌⊎◌, ℕ, ◌^◌, ◌≤◌, List, [], ◌∷◌, ◌++◌, Any, Option}
use Rattle.capnp_frame.specs.declared.error.ErrorKind.{ErrorKind}
use Rattle.capnp_frame.specs.declared.error.ErrorKind.TheVariants.{AllocationTooLarge}
use Rattle.capnp_wire.specs.Prelude.{Trees, struct, structs, numbers, none, tree, total_words, LongText}
use Rattle.capnp_build.specs.declared.allocator.Allocator.{Ghosts}
use Rattle.capnp_build.specs.Prelude.{Built}
use Rattle.capnp_uses.specs.Roots.{SetCanonicalError, StaysUnset, StaysUnread}

-- a text, with its zero byte, in front of other trees
abbrev pub text_tree : List ℕ → Trees → Trees
text_tree bytes rest = tree (numbers 2 (bytes ++ 0 ∷ [])) none rest

abbrev pub address_tree : List ℕ → Trees
address_tree city = tree (struct []) (text_tree city none) none

abbrev pub person_tree : ℕ → List ℕ → List ℕ → Trees
person_tree id name city = tree (struct (id ∷ [])) (text_tree name (address_tree city)) none

-- A contact: a struct of a number, whose pointers point to a name, to an address and to a list of phones, which are structs of
-- a word and a text.
abbrev pub texts : List (List ℕ) → Trees
texts [] = none
texts (bytes ∷ others) = text_tree bytes (texts others)

abbrev pub phones_tree : List (List ℕ) → List (List ℕ) → Trees
phones_tree words numbers_of_phones = tree (structs 1 1 words) (texts numbers_of_phones) none

abbrev pub contact_tree : ℕ → List ℕ → List ℕ → List (List ℕ) → List (List ℕ) → Trees
contact_tree id name mail words numbers_of_phones = tree (struct (id ∷ [])) (text_tree name (text_tree mail (phones_tree words numbers_of_phones))) none

-- a value of these texts is too large: one of them is too long for a text, or the tree has 2 ^ 29 words; the error carries a size
abbrev pub TooLargeError : List (List ℕ) → Trees → ErrorKind → Type 0
TooLargeError texts trees kind = Any (λ bytes. LongText bytes kind) texts
    ⊎ ((2 ^ 29 ≤ total_words trees) × ((size : ℕ) × (kind ≡ AllocationTooLarge size)))

-- Why a message in which a value of these texts and this tree was to be the root is not read back, and what that leaves.
-- The root is null: the value is too large, the first segment is not handed out, or no segment has room. Or the value is
-- the root: the message has too many segments or words, or the call is out of memory.
abbrev pub ReadBackError : {A S : Type 0} → Ghosts A S → List (List ℕ) → Trees → Option ℕ → Built A → Built A → ErrorKind → Type 0
ReadBackError alloc texts trees limit old new kind = StaysUnset alloc (λ found. found ≡ trees) (TooLargeError texts trees) old new kind
    ⊎ StaysUnread alloc (λ found. found ≡ trees) limit old new kind

-- why the canonical form of such a value does not become the one segment of a new message: the first segment is not handed
-- out. Or it is, and the value or its form is too large, or the form has no room there.
abbrev pub AloneError : {A S : Type 0} → Ghosts A S → List (List ℕ) → Trees → Built A → Built A → ErrorKind → Type 0
AloneError alloc texts trees = SetCanonicalError alloc (λ found. found ≡ trees) (TooLargeError texts trees)
