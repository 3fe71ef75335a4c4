-- What a walk tests of the objects of a message of one segment, and where it ends (src/layout/canonical.rt).
use Rattle.std.specs.Prelude.{◌≡◌, ◌≢◌, ◌⊎◌, ℕ, ◌+◌, ◌-◌, ◌*◌, ◌^◌, ◌<◌, ◌≤◌, false, List, [], ◌∷◌, length, Option, Some, Result, IfOk, IfErr, slice_get, slice_index_or}
use Rattle.capnp_frame.specs.declared.error.Error.{Error}
use Rattle.capnp_frame.specs.declared.error.ErrorKind.{ErrorKind}
use Rattle.capnp_frame.specs.declared.error.ErrorKind.TheVariants.{ReadLimitExceeded, InvalidSegmentId}
use Rattle.capnp_layout.specs.Prelude.{pointer_kind, offset, list_count, code_of, Form, null, struct, numbers, structs, Trees, depth, object_size, total_words, word_at, elements, Shape, PointsTo, At, root, Within, less, PointerError, minus_one, Trimmed, segment_of, places_in, end_of}
use Rattle.capnp_layout.specs.Tree.{is_null}
use Rattle.capnp_wire.specs.Canonical.{EndsFull, Padded, IsInPreorder}
use Rattle.capnp_layout.specs.declared.place.Place.{Place}
use Rattle.capnp_wire.specs.declared.layout.canonical.CanonicalWalk.{CanonicalWalk}
use Rattle.capnp_wire.specs.declared.layout.canonical.Met.{Met}
use Rattle.capnp_wire.specs.declared.layout.canonical.Met.TheVariants.{Null, NotCanonical, Pointers}
use Rattle.capnp_layout.specs.declared.pointer_slots.PointerSlots.{PointerSlots}
use Rattle.capnp_layout.specs.declared.object.Body.{Body}
use Rattle.capnp_layout.specs.declared.object.Body.TheVariants.{Struct, Numbers, Structs}

-- a far pointer is at a place
abbrev pub IsFarAt : List ℕ → Place → Type 0
IsFarAt segment place = (word : ℕ) × (word_at (segment ∷ []) place ≡ Some word) × (pointer_kind word ≡ 2)

-- the offset of a pointer at a word points to the next free word
abbrev pub PointsToNext : ℕ → ℕ → ℕ → Type 0
PointsToNext pointer word next = (offset pointer ≡ next - (word + 1)) × (next - (word + 1) < 2 ^ 29)

-- A pointer at a word points to the next free word; the offset to a struct of no words is -1; the
-- pointer to a list of structs counts exactly the words of its elements.
abbrev pub IsNext : ℕ → ℕ → ℕ → Form → ℕ → Type 0
IsNext pointer word next null n = Unit {0}
IsNext pointer word next (struct words) n =
    (length words + n ≡ 0 → offset pointer ≡ minus_one) × (0 < length words + n → PointsToNext pointer word next)
IsNext pointer word next (structs d p elements) n = PointsToNext pointer word next × (list_count pointer ≡ length elements * (d + p))
IsNext pointer word next form n = PointsToNext pointer word next

-- the same for an object that is read: its pointer points to the next free word
abbrev pub NextOf : ℕ → ℕ → ℕ → Body → Type 0
NextOf pointer word next (Struct size) =
    (size.data_words + size.pointers ≡ 0 → offset pointer ≡ minus_one)
    × (0 < size.data_words + size.pointers → PointsToNext pointer word next)
NextOf pointer word next (Structs elements following) =
    PointsToNext pointer word next × (list_count pointer ≡ elements.count * (elements.size.data_words + elements.size.pointers))
NextOf pointer word next body = PointsToNext pointer word next

-- the padding of an object that starts at a word, as it is read
abbrev pub PaddedOf : List ℕ → ℕ → Body → Type 0
PaddedOf segment start (Numbers size count) =
    Padded segment start (numbers (code_of size) (elements segment start (code_of size) count))
PaddedOf segment start body = Unit {0}

-- the pointer words at places
abbrev pub links_at : List ℕ → List Place → List ℕ
links_at segment [] = []
links_at segment (place ∷ places) = slice_index_or segment place.word 0 ∷ links_at segment places

-- elements have no words of data, or the last word of data of one of them is not zero
abbrev pub NeedData : ℕ → List (List ℕ) → Type 0
NeedData d elements = (d ≡ 0) ⊎ ((i : ℕ) × (element : List ℕ) × (slice_get elements i ≡ Some element) × EndsFull element)

-- n elements have no pointers, or the last pointer of one of them is not null
abbrev pub NeedPointers : ℕ → ℕ → List ℕ → Type 0
NeedPointers p n links = (p ≡ 0) ⊎ ((i : ℕ) × (i < n) × (slice_index_or links (i * p + p - 1) 0 ≢ 0))

-- an object with these pointer words has no trailing zero words, neither of data nor of pointers
abbrev pub IsTruncated : Form → List ℕ → Type 0
IsTruncated (struct words) links = EndsFull words × EndsFull links
IsTruncated (structs d p elements) links = NeedData d elements × NeedPointers p (length elements) links
IsTruncated form links = Unit {0}

-- The object that the pointer at a place points to is as the canonical form has it, where this is
-- the next free word.
pub record IsLaidOut (segment : List ℕ) (place : Place) (next : ℕ) (shape : Shape) : Type 0 where
  pub pointer : ℕ
  pub there : word_at (segment ∷ []) place ≡ Some pointer
  pub is_next : IsNext pointer place.word next shape.form (length shape.children)
  pub padded : Padded segment next shape.form
  pub truncated : IsTruncated shape.form (links_at segment shape.children)

-- Trees at places, within the nesting depth left, with the words traversed: all are as the
-- canonical form has them, from the next free word up to the one after them.
pub record Passes (segment : List ℕ) (places : List Place) (nesting traversed next after : ℕ) : Type 0 where
  pub trees : Trees
  pub are_at : At (segment ∷ []) places trees traversed
  pub shallow : depth trees ≤ nesting
  pub in_preorder : IsInPreorder segment places next trees
  pub trimmed : Trimmed trees
  pub after_is : after ≡ next + total_words trees
  pub room : after ≤ length segment

-- An object is met that may be entered, and no far pointer points to it.
pub record MeetsObject (segment : List ℕ) (place : Place) (nesting : ℕ) (limit : Option ℕ) (shape : Shape) : Type 0 where
  pub object : PointsTo (segment ∷ []) place shape
  pub some : is_null shape.form ≡ false
  pub not_far : IsFarAt segment place → ⊥
  pub deep : 0 < nesting
  pub within : Within limit shape.traversed

-- What a walk over the trees at some places finds where it passes: trees within the nesting depth
-- left and the limit.
pub record PassesAt (segment : List ℕ) (places : List Place) (nesting : ℕ) (limit left : Option ℕ) (next after : ℕ) : Type 0 where
  pub traversed : ℕ
  pub passes : Passes segment places nesting traversed next after
  pub within : Within limit traversed
  pub left_is : left ≡ less limit traversed

-- why a walk ends early: an error, or an object that is not canonical
pub data Ending : Type 0 where
  fails_with : ErrorKind → Ending
  not_canonical : Ending

-- A walk over the trees at places, in preorder, ends early, at the first thing that it meets.
pub data Ends (segment : List ℕ) : List Place → ℕ → Option ℕ → ℕ → Ending → Type 0 where
  far : {place : Place} {others : List Place} {nesting : ℕ} {limit : Option ℕ} {next : ℕ} → IsFarAt segment place
      → Ends segment (place ∷ others) nesting limit next not_canonical
  at_pointer : {place : Place} {others : List Place} {nesting : ℕ} {limit : Option ℕ} {next : ℕ} {kind : ErrorKind}
      → (IsFarAt segment place → ⊥) → PointerError (segment ∷ []) place nesting kind
      → Ends segment (place ∷ others) nesting limit next (fails_with kind)
  over_limit : {place : Place} {others : List Place} {nesting most next : ℕ} {shape : Shape}
      → (IsFarAt segment place → ⊥) → PointsTo (segment ∷ []) place shape → 0 < nesting → most < shape.traversed
      → Ends segment (place ∷ others) nesting (Some most) next (fails_with ReadLimitExceeded)
  elsewhere : {place : Place} {others : List Place} {nesting : ℕ} {limit : Option ℕ} {next : ℕ} {shape : Shape}
      → MeetsObject segment place nesting limit shape → (IsLaidOut segment place next shape → ⊥)
      → Ends segment (place ∷ others) nesting limit next not_canonical
  inside : {place : Place} {others : List Place} {nesting : ℕ} {limit : Option ℕ} {next : ℕ} {shape : Shape} {ending : Ending}
      → MeetsObject segment place nesting limit shape → IsLaidOut segment place next shape
      → Ends segment shape.children (nesting - 1) (less limit shape.traversed) (next + object_size shape.form (length shape.children)) ending
      → Ends segment (place ∷ others) nesting limit next ending
  later : {place : Place} {others : List Place} {nesting : ℕ} {limit : Option ℕ} {next traversed after : ℕ} {ending : Ending}
      → Passes segment (place ∷ []) nesting traversed next after → Within limit traversed
      → Ends segment others nesting (less limit traversed) after ending
      → Ends segment (place ∷ others) nesting limit next ending

-- An object is met that is as the canonical form has it; these are its pointers, which are still to
-- be tested.
pub record MeetsPointers (segment : List ℕ) (place : Place) (nesting : ℕ) (limit left : Option ℕ) (next after : ℕ) (pointers : PointerSlots) : Type 0 where
  pub shape : Shape
  pub meets : MeetsObject segment place nesting limit shape
  pub laid_out : IsLaidOut segment place next shape
  pub all : places_in pointers ≡ shape.children
  pub first : segment_of pointers ≡ 0
  pub before : end_of pointers ≤ after
  pub left_is : left ≡ less limit shape.traversed
  pub after_is : after ≡ next + object_size shape.form (length shape.children)
  pub room : after ≤ length segment

-- what is met at a place: null, an object that alone is not canonical, or one that is
abbrev pub IsMet : List ℕ → Place → ℕ → Option ℕ → Option ℕ → ℕ → ℕ → Met → Type 0
IsMet segment place nesting limit left next after Null =
    (word_at (segment ∷ []) place ≡ Some 0) × (left ≡ limit) × (after ≡ next)
IsMet segment place nesting limit left next after NotCanonical = Ends segment (place ∷ []) nesting limit next not_canonical
IsMet segment place nesting limit left next after (Pointers pointers) =
    MeetsPointers segment place nesting limit left next after pointers

-- what a test finds of the object alone that the pointer at a word points to
abbrev pub MeetsAt : List ℕ → ℕ → ℕ → CanonicalWalk → CanonicalWalk → Result Met Error → Type 0
MeetsAt segment word nesting old new result = let place : Place = record { segment = 0; word = word } in
    IfOk result (λ met. IsMet segment place nesting old.walk.left new.walk.left old.next new.next met)

-- with which kind a test of the object that the pointer at a word points to fails
abbrev pub FailsAt : List ℕ → ℕ → ℕ → CanonicalWalk → Result Met Error → Type 0
FailsAt segment word nesting old result = let place : Place = record { segment = 0; word = word } in
    IfErr result (λ error. Ends segment (place ∷ []) nesting old.walk.left old.next (fails_with error.kind))

-- Why it cannot be decided whether a message is canonical: it has no first segment, or the walk
-- over its one segment fails. A message of more segments is not canonical, whatever is in them.
pub data CanonicityError (m : List (List ℕ)) (nesting : ℕ) (limit : Option ℕ) : ErrorKind → Type 0 where
  no_first_segment : m ≡ [] → CanonicityError m nesting limit (InvalidSegmentId 0)
  on_the_walk : {segment : List ℕ} {kind : ErrorKind} → m ≡ segment ∷ []
      → Ends segment (root ∷ []) nesting limit 1 (fails_with kind) → CanonicityError m nesting limit kind
