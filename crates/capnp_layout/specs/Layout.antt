-- How trees are laid out in one segment, and the canonical form.
use Rattle.std.specs.Prelude.{◌/◌, ◌%◌, ◌≡◌, ◌<◌, ◌≤◌, ⊤, All, Bool, true, false, ℕ, zero, suc, ◌+◌, ◌-◌, ◌*◌, ◌^◌, ◌==◌, if◌then◌else◌, List, [], ◌∷◌, ◌++◌, length, take, drop}
use Rattle.capnp_layout.specs.Pointer.{digits, number_of, words_from}
use Rattle.capnp_layout.specs.Element.{width, words_for}
use Rattle.capnp_layout.specs.Tree.{Form, null, struct, numbers, pointers, structs, Trees, none, tree, count, object_size, total_words}
use Rattle.capnp_layout.specs.Trim.{trim, trim_form, trim_children}
use Rattle.capnp_layout.specs.declared.place.Place.{Place}

-- the pointer words of structs and lists; a struct pointer is also the tag of a list of structs
abbrev pub struct_pointer : ℕ → ℕ → ℕ → ℕ
struct_pointer offset d p = 4 * offset + 2 ^ 32 * d + 2 ^ 48 * p

abbrev pub list_pointer : ℕ → ℕ → ℕ → ℕ
list_pointer offset code count = 1 + 4 * offset + 2 ^ 32 * code + 2 ^ 35 * count

-- the far pointer to a landing pad of one word
abbrev pub far_pointer : ℕ → ℕ → ℕ
far_pointer segment position = 2 + 8 * position + 2 ^ 32 * segment

-- The pointer at a word of a segment to an object. It is given as a word that has, in place of the offset,
-- the index of the word at which the object begins. Null, and the pointer to a struct of no words, stay the
-- same.
abbrev pub link : ℕ → ℕ → ℕ
link word place =
    if word % 4 + word / 2 ^ 32 == 0 then word
    else 2 ^ 32 * (word / 2 ^ 32) + (word % 2 ^ 32 + 2 ^ 32 - 4 * (place + 1)) % 2 ^ 32

-- the offset -1, in 30 bits
abbrev pub minus_one : ℕ
minus_one = 2 ^ 30 - 1

-- the pointer word to an object that has n pointers; a struct of no words has offset -1
abbrev pub pointer : Form → ℕ → ℕ → ℕ
pointer null n offset = 0
pointer (struct words) n offset = struct_pointer (if length words + n == 0 then minus_one else offset) (length words) n
pointer (numbers code values) n offset = list_pointer offset code (length values)
pointer pointers n offset = list_pointer offset 6 n
pointer (structs d p elements) n offset = list_pointer offset 7 (length elements * (d + p))

-- n pointers from a word of the object on
abbrev pub run : ℕ → ℕ → List ℕ
run start zero = []
run start (suc n) = start ∷ run (start + 1) n

-- where an object has its n pointers
abbrev pub element_runs : ℕ → ℕ → ℕ → List (List ℕ) → List ℕ
element_runs start d p [] = []
element_runs start d p (element ∷ elements) = run (start + d) p ++ element_runs (start + d + p) d p elements

abbrev pub slots : Form → ℕ → List ℕ
slots (struct words) n = run (length words) n
slots (structs d p elements) n = element_runs 1 d p elements
slots form n = run 0 n

-- the pointer words in these slots, where the first of the objects begins at `next`
abbrev pub pointers_to : List ℕ → ℕ → Trees → List ℕ
pointers_to slots next none = []
pointers_to [] next (tree form children rest) = []
pointers_to (slot ∷ slots) next (tree form children rest) =
    pointer form (count children) (next - (slot + 1)) ∷ pointers_to slots (next + object_size form (count children) + total_words children) rest

-- data sections, each with its p pointers after it
abbrev pub woven : ℕ → List (List ℕ) → List ℕ → List ℕ
woven p [] links = []
woven p (element ∷ elements) links = element ++ take p links ++ woven p elements (drop p links)

-- an object's own words, with its pointer words
abbrev pub own : Form → List ℕ → List ℕ
own null links = []
own (struct words) links = words ++ links
own (numbers code values) links = digits (2 ^ 64) (words_for (length values) (width code)) (number_of (2 ^ width code) values)
own pointers links = links
own (structs d p elements) links = struct_pointer (length elements) d p ∷ woven p elements links

-- trees in preorder: the words of each, then the words of the trees below it
abbrev pub body : Trees → List ℕ
body none = []
body (tree form children rest) =
    own form (pointers_to (slots form (count children)) (object_size form (count children)) children) ++ body children ++ body rest

-- the pointer to a tree's body, where that begins a given number of words after it
abbrev pub pointer_to : Trees → ℕ → ℕ
pointer_to none offset = 0
pointer_to (tree form children rest) offset = pointer form (count children) offset

-- a tree with its pointer, which its body follows
abbrev pub layout : Trees → List ℕ
layout trees = pointer_to trees 0 ∷ body trees

-- the canonical form of a tree
abbrev pub canon : Trees → List ℕ
canon trees = layout (trim trees)

-- a tree untrimmed, or in canonical form
abbrev pub output : Bool → Trees → Trees
output true trees = trim trees
output false trees = trees

-- every field of an object with n pointers has room
abbrev pub HasRoom : Form → ℕ → Type 0
HasRoom null n = n ≡ 0
HasRoom (struct words) n = (length words < 2 ^ 16) × (n < 2 ^ 16) × All (λ w. w < 2 ^ 64) words
HasRoom (numbers code values) n = (code < 6) × (length values < 2 ^ 29) × (n ≡ 0) × All (λ v. v < 2 ^ width code) values
HasRoom pointers n = n < 2 ^ 29
HasRoom (structs d p elements) n =
    (d < 2 ^ 16) × (p < 2 ^ 16) × (length elements < 2 ^ 30) × (length elements * (d + p) < 2 ^ 29) × (n ≡ length elements * p)
    × All (λ element. (length element ≡ d) × All (λ w. w < 2 ^ 64) element) elements

abbrev pub AllHaveRoom : Trees → Type 0
AllHaveRoom none = ⊤
AllHaveRoom (tree form children rest) = HasRoom form (count children) × AllHaveRoom children × AllHaveRoom rest

-- the offset of the pointer to an object with n pointers has room, where that pointer has one
abbrev pub Reaches : Form → ℕ → ℕ → Type 0
Reaches null n offset = ⊤
Reaches (struct words) n offset = 0 < length words + n → offset < 2 ^ 29
Reaches form n offset = offset < 2 ^ 29

-- the offsets of all pointers have room, where the first pointers are in these slots and the first
-- object begins at `next`
abbrev pub AllReach : List ℕ → ℕ → Trees → Type 0
AllReach places next none = ⊤
AllReach [] next (tree form children rest) = ⊤
AllReach (slot ∷ others) next (tree form children rest) =
    Reaches form (count children) (next - (slot + 1)) × AllReach (slots form (count children)) (object_size form (count children)) children
    × AllReach others (next + object_size form (count children) + total_words children) rest

-- the places of an object's slots in a segment
abbrev pub placed : ℕ → ℕ → List ℕ → List Place
placed segment start [] = []
placed segment start (slot ∷ slots) = record { segment = segment; word = start + slot } ∷ placed segment start slots

-- the words from `start` on are the body of these trees
pub record Laid (words : List ℕ) (start : ℕ) (trees : Trees) : Type 0 where
  pub within : start + total_words trees ≤ length words
  pub words_are : words_from words start (total_words trees) ≡ body trees

-- every word is below 2 ^ 64
abbrev pub AllWords : List (List ℕ) → Type 0
AllWords m = All (λ words. All (λ w. w < 2 ^ 64) words) m

-- trees that trimming does not change
abbrev pub Trimmed : Trees → Type 0
Trimmed none = ⊤
Trimmed (tree form children rest) = ((trim_form form children ≡ form) × (trim_children form children ≡ children) × Trimmed children) × Trimmed rest
