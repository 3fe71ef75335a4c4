-- What the pointer word of the root's object says of it.
use Rattle.std.specs.Prelude.{◌≡◌, ◌≢◌, ⊤, ℕ, ◌*◌, List, length, take}
use Rattle.capnp_layout.specs.Prelude.{words_of, Form, null, struct, numbers, pointers, structs}
use Rattle.capnp_build.specs.declared.root_kind.RootKind.{RootKind}
use Rattle.capnp_build.specs.declared.root_kind.RootKind.TheVariants.{Null, Bytes, Words, Struct, Other}

-- neither null, nor a struct, nor a list of bytes or of words
abbrev pub IsOther : Form → Type 0
IsOther null = ⊥
IsOther (struct words) = ⊥
IsOther (numbers code values) = (code ≢ 2) × (code ≢ 5)
IsOther pointers = ⊤
IsOther (structs d p elements) = ⊤

-- the kind of an object
abbrev pub ShowsRoot : RootKind → Form → Type 0
ShowsRoot Null form = form ≡ null
ShowsRoot (Bytes n) form = (values : List ℕ) × (form ≡ numbers 2 values) × (length values ≡ n)
ShowsRoot (Words n) form = (values : List ℕ) × (form ≡ numbers 5 values) × (length values ≡ n)
ShowsRoot (Struct d) form = (words : List ℕ) × (form ≡ struct words) × (length words ≡ d)
ShowsRoot Other form = IsOther form

-- the bytes begin with the object's content: text and data, a list of words, or the data words of a
-- struct
abbrev pub HoldsForm : List ℕ → Form → Type 0
HoldsForm bytes (numbers code values) =
    (code ≡ 2 → take (length values) bytes ≡ values) × (code ≡ 5 → words_of (take (8 * length values) bytes) ≡ values)
HoldsForm bytes (struct words) = words_of (take (8 * length words) bytes) ≡ words
HoldsForm bytes form = ⊤
