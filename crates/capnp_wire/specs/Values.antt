-- Values that are measured and written (src/layout/value.rt).
use Rattle.std.specs.Prelude.{◌≡◌, ◌⊎◌, ℕ, ◌+◌, ◌-◌, ◌%◌, ◌^◌, ◌<◌, ◌≤◌, min, Bool, false, List, [], ◌∷◌, ◌++◌, Option, Some, None, MatchOption, length, drop, replicate, slice_get}
use Rattle.std.proofs.Common.{refl, ap}
use Rattle.capnp_frame.specs.declared.error.ErrorKind.{ErrorKind}
use Rattle.capnp_frame.specs.declared.error.ErrorKind.TheVariants.{AllocationTooLarge}
use Rattle.capnp_frame.specs.Prelude.{bytes_of}
use Rattle.capnp_frame.specs.declared.words.Word.{Word}
use Rattle.capnp_layout.specs.Prelude.{number_of, words_of, words_from, words_for, places, null, struct, numbers, Trees, none, tree, count, depth, total_words, At, at, nowhere, trim, canon, output, AllHaveRoom, Within, too_large, WalkError}
use Rattle.capnp_wire.specs.Views.{Pointer, Struct}
use Rattle.capnp_layout.specs.Tree.{is_null}
use Rattle.capnp_layout.specs.declared.place.Place.{Place}
use Rattle.capnp_wire.specs.declared.traits.TreeWords.{TreeWords}
use Rattle.capnp_layout.specs.declared.pointer.StructSize.{StructSize}

-- the tree at a place, within the nesting depth left and a limit
pub record TreeAt (m : List (List ℕ)) (place : Place) (nesting : ℕ) (limit : Option ℕ) (trees : Trees) : Type 0 where
  pub traversed : ℕ
  pub are_at : At m (place ∷ []) trees traversed
  pub shallow : depth trees ≤ nesting
  pub within : Within limit traversed

-- the words of the body of the tree at a place, untrimmed or in canonical form, where these are
-- fewer than 2 ^ 29
pub record Measured (m : List (List ℕ)) (place : Place) (nesting : ℕ) (limit : Option ℕ) (canonical : Bool) (words : ℕ) : Type 0 where
  pub trees : Trees
  pub tree_is : TreeAt m place nesting limit trees
  pub rooms : AllHaveRoom trees
  pub words_are : words ≡ total_words (output canonical trees)
  pub few : words < 2 ^ 29

-- measuring the tree fails: a walk over it stops, or it has too many words
abbrev pub TreeSizeError : List (List ℕ) → Place → ℕ → Option ℕ → Bool → ErrorKind → Type 0
TreeSizeError m place nesting limit canonical kind =
    WalkError m (place ∷ []) nesting limit kind
    ⊎ ((trees : Trees) × TreeAt m place nesting limit trees × (2 ^ 29 ≤ total_words (output canonical trees))
    × (kind ≡ too_large canonical (total_words (output canonical trees))))

-- The words of a value, by the trees that it may be; it is one tree, or none.
pub record HasWords (has_tree : Trees → Type 0) (canonical : Bool) (words : ℕ) : Type 0 where
  pub trees : Trees
  pub tree_is : has_tree trees
  pub rooms : AllHaveRoom trees
  pub words_are : words ≡ total_words (output canonical trees)
  pub few : words < 2 ^ 29

-- the first of some trees is null
abbrev pub starts_with_null : Trees → Bool
starts_with_null none = false
starts_with_null (tree form children rest) = is_null form

-- The words of a value as a part of another one: of its untrimmed tree, fewer than 2 ^ 29, and of
-- its tree in the form that is written.
pub record HasPart (has_tree : Trees → Type 0) (canonical : Bool) (words : TreeWords) : Type 0 where
  pub trees : Trees
  pub tree_is : has_tree trees
  pub rooms : AllHaveRoom trees
  pub untrimmed_same : words.untrimmed ≡ total_words trees
  pub output_is : words.output ≡ total_words (output canonical trees)
  pub few : words.untrimmed < 2 ^ 29

-- a value's tree has room in a block of this many words, from a word on
pub record HasRoomAt (has_tree : Trees → Type 0) (canonical : Bool) (next room : ℕ) : Type 0 where
  pub trees : Trees
  pub tree_is : has_tree trees
  pub rooms : AllHaveRoom trees
  pub fits : next + total_words (output canonical trees) ≤ room

-- a block of whole words, fewer than 2 ^ 29, which are zero from one on
pub record IsFreeFrom (next : ℕ) (block : List ℕ) : Type 0 where
  pub whole : length block % 8 ≡ 0
  pub few : length (words_of block) < 2 ^ 29
  pub zero : drop next (words_of block) ≡ replicate (length (words_of block) - next) 0

-- A value has no tree, for this reason, or a tree of too many words.
abbrev pub WordsError : (Trees → Type 0) → (ErrorKind → Type 0) → Bool → ErrorKind → Type 0
WordsError has_tree fails canonical kind =
    fails kind
    ⊎ ((trees : Trees) × has_tree trees × (2 ^ 29 ≤ total_words (output canonical trees))
    × (kind ≡ too_large canonical (total_words (output canonical trees))))

-- the tree that a pointer points to, within the nesting depth left and its limit, and where a walk over it
-- stops
abbrev pub PointsToTree : Pointer → Trees → Type 0
PointsToTree pointer trees = MatchOption pointer.place (trees ≡ tree null none none)
    (λ place. TreeAt pointer.message place pointer.nesting pointer.limit trees)

abbrev pub WalkErrorFrom : Pointer → ErrorKind → Type 0
WalkErrorFrom pointer kind = (place : Place) × (pointer.place ≡ Some place)
    × WalkError pointer.message (place ∷ []) pointer.nesting pointer.limit kind

-- the tree of a struct that is read, within the nesting depth left and its limit, and where a walk over its
-- pointers stops
pub record IsTreeOf (fields : Struct) (trees : Trees) : Type 0 where
  pub children : Trees
  pub traversed : ℕ
  pub are_at : At fields.message fields.children children traversed
  pub shallow : depth children ≤ fields.nesting
  pub within : Within fields.limit traversed
  pub whole : trees ≡ tree (struct fields.words) children none

abbrev pub WalkErrorInside : Struct → ErrorKind → Type 0
WalkErrorInside fields kind = WalkError fields.message fields.children fields.nesting fields.limit kind

-- a struct whose words are in a segment
abbrev pub fields_at : List (List ℕ) → List ℕ → Place → StructSize → ℕ → Option ℕ → Struct
fields_at m words start size nesting limit = record {
  message = m;
  words = words_from words start.word size.data_words;
  children = places start.segment (start.word + size.data_words) size.pointers;
  nesting = nesting;
  limit = limit;
}

-- where it has pointers, the segment is one of the message's
abbrev pub HasPointersSegment : List (List ℕ) → List ℕ → Place → StructSize → Type 0
HasPointersSegment m words start size = 0 < size.pointers → slice_get m start.segment ≡ Some words

-- the tree of a list of bytes, and the error of more bytes than a list may have
abbrev pub IsBytes : List ℕ → Trees → Type 0
IsBytes bytes trees = (length bytes < 2 ^ 29) × (trees ≡ tree (numbers 2 bytes) none none)

abbrev pub ManyBytes : List ℕ → ErrorKind → Type 0
ManyBytes bytes kind =
    (2 ^ 29 ≤ length bytes) × (kind ≡ AllocationTooLarge (min (words_for (length bytes) 8) (2 ^ 32 - 1)))

-- a pointer word and a block after it
abbrev pub pointed : Word → List ℕ → List ℕ
pointed word block = number_of 256 (bytes_of word) ∷ words_of block

-- the canonical form of the tree that a pointer points to
pub record IsCanonicalForm (pointer : Pointer) (words : List ℕ) : Type 0 where
  pub trees : Trees
  pub tree_is : PointsToTree pointer trees
  pub rooms : AllHaveRoom trees
  pub few : total_words (trim trees) < 2 ^ 29
  pub words_are : words ≡ canon trees

-- the tree of a `Text`, with the zero byte at its end
abbrev pub IsTextTree : List ℕ → Trees → Type 0
IsTextTree bytes trees = IsBytes (bytes ++ 0 ∷ []) trees

abbrev pub LongText : List ℕ → ErrorKind → Type 0
LongText bytes kind = ManyBytes (bytes ++ 0 ∷ []) kind

-- a pointer points to one tree
one_there : (m : List (List ℕ)) (place : Place) (trees : Trees) (traversed : ℕ) → At m (place ∷ []) trees traversed → count trees ≡ 1
one_there m place trees traversed (at object inner nowhere) = refl

one_at : (o : Option Place) (m : List (List ℕ)) (nesting : ℕ) (limit : Option ℕ) (trees : Trees) → MatchOption o (trees ≡ tree null none none) (λ place. TreeAt m place nesting limit trees)
    → count trees ≡ 1
one_at None m nesting limit trees is = ap count is
one_at (Some place) m nesting limit trees is = one_there m place trees is.traversed is.are_at

pub one_value : (pointer : Pointer) (trees : Trees) → PointsToTree pointer trees → count trees ≡ 1
one_value pointer trees is = one_at pointer.place pointer.message pointer.nesting pointer.limit trees is
