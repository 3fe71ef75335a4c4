-- Where no object is, and which error says so. The cases are in the order in which they are tested:
-- the pointer's own word, a capability, landing pads, the nesting depth left, bounds and a list's
-- tag. A case holds only where those before it don't.
use Rattle.std.specs.Prelude.{◌≡◌, ℕ, ◌+◌, ◌-◌, ◌*◌, ◌<◌, ◌≤◌, List, [], ◌∷◌, length, Some, None, Option, slice_get}
use Rattle.capnp_frame.specs.declared.error.ErrorKind.{ErrorKind}
use Rattle.capnp_frame.specs.declared.error.ErrorKind.TheVariants.{PointerOutOfBounds, InvalidSegmentId, NestingLimitExceeded, ReadLimitExceeded, CapabilityRefused, WrongPointerKind}
use Rattle.capnp_layout.specs.Pointer.{pointer_kind, offset, data_words, pointer_words, code, list_count, has_wide_landing_pad, landing_pad_segment}
use Rattle.capnp_layout.specs.Element.{width, words_for}
use Rattle.capnp_layout.specs.Object.{word_at, landing_pad, landing_pad_tag, IsFar, Target, Lands, IsStart, Shape, PointsTo}
use Rattle.capnp_layout.specs.Traversed.{Within, less, TreesAt}
use Rattle.capnp_layout.specs.declared.place.Place.{Place}

-- no word is at a place
pub data NoWord (m : List (List ℕ)) (place : Place) : ErrorKind → Type 0 where
  no_segment : slice_get m place.segment ≡ None → NoWord m place (InvalidSegmentId place.segment)
  past_segment : {words : List ℕ} → slice_get m place.segment ≡ Some words → slice_get words place.word ≡ None
      → NoWord m place PointerOutOfBounds

-- the landing pad of a far pointer points nowhere
pub data BadLandingPad (m : List (List ℕ)) (word : ℕ) : ErrorKind → Type 0 where
  no_landing_pad : {kind : ErrorKind} → NoWord m (landing_pad word) kind → BadLandingPad m word kind
  -- a landing pad of one word
  far_again : {tag : ℕ} → has_wide_landing_pad word ≡ 0 → word_at m (landing_pad word) ≡ Some tag → pointer_kind tag ≡ 2
      → BadLandingPad m word PointerOutOfBounds
  landing_pad_capability : {tag : ℕ} → has_wide_landing_pad word ≡ 0 → word_at m (landing_pad word) ≡ Some tag → pointer_kind tag ≡ 3
      → BadLandingPad m word CapabilityRefused
  -- a landing pad of two words
  no_tag : {inner : ℕ} → has_wide_landing_pad word ≡ 1 → word_at m (landing_pad word) ≡ Some inner → word_at m (landing_pad_tag word) ≡ None
      → BadLandingPad m word PointerOutOfBounds
  not_far : {inner tag : ℕ} → has_wide_landing_pad word ≡ 1 → word_at m (landing_pad word) ≡ Some inner
      → word_at m (landing_pad_tag word) ≡ Some tag → (IsFar inner 0 → ⊥) → BadLandingPad m word PointerOutOfBounds
  no_content : {inner tag : ℕ} → has_wide_landing_pad word ≡ 1 → word_at m (landing_pad word) ≡ Some inner
      → word_at m (landing_pad_tag word) ≡ Some tag → IsFar inner 0 → slice_get m (landing_pad_segment inner) ≡ None
      → BadLandingPad m word (InvalidSegmentId (landing_pad_segment inner))
  far_tag : {inner tag : ℕ} {words : List ℕ} → has_wide_landing_pad word ≡ 1 → word_at m (landing_pad word) ≡ Some inner
      → word_at m (landing_pad_tag word) ≡ Some tag → IsFar inner 0 → slice_get m (landing_pad_segment inner) ≡ Some words → pointer_kind tag ≡ 2
      → BadLandingPad m word PointerOutOfBounds
  capability_tag : {inner tag : ℕ} {words : List ℕ} → has_wide_landing_pad word ≡ 1 → word_at m (landing_pad word) ≡ Some inner
      → word_at m (landing_pad_tag word) ≡ Some tag → IsFar inner 0 → slice_get m (landing_pad_segment inner) ≡ Some words → pointer_kind tag ≡ 3
      → BadLandingPad m word CapabilityRefused

-- no object that a pointer describes is at this word of its segment: it would lie outside, or its list's
-- tag is wrong
pub data SizeError (words : List ℕ) (start pointer : ℕ) : ErrorKind → Type 0 where
  struct_outside : pointer_kind pointer ≡ 0 → length words < start + data_words pointer + pointer_words pointer
      → SizeError words start pointer PointerOutOfBounds
  list_outside : pointer_kind pointer ≡ 1 → code pointer < 7
      → length words < start + words_for (list_count pointer) (width (code pointer))
      → SizeError words start pointer PointerOutOfBounds
  structs_outside : pointer_kind pointer ≡ 1 → code pointer ≡ 7 → length words < start + 1 + list_count pointer
      → SizeError words start pointer PointerOutOfBounds
  odd_tag : {tag : ℕ} → pointer_kind pointer ≡ 1 → code pointer ≡ 7 → start + 1 + list_count pointer ≤ length words
      → slice_get words start ≡ Some tag → 0 < pointer_kind tag → SizeError words start pointer WrongPointerKind
  many_elements : {tag : ℕ} → pointer_kind pointer ≡ 1 → code pointer ≡ 7 → start + 1 + list_count pointer ≤ length words
      → slice_get words start ≡ Some tag → pointer_kind tag ≡ 0
      → list_count pointer < offset tag * (data_words tag + pointer_words tag)
      → SizeError words start pointer PointerOutOfBounds

-- the pointer at a place is invalid, with this nesting depth left
pub data PointerError (m : List (List ℕ)) (place : Place) (nesting : ℕ) : ErrorKind → Type 0 where
  no_word : {kind : ErrorKind} → NoWord m place kind → PointerError m place nesting kind
  capability : {word : ℕ} → word_at m place ≡ Some word → pointer_kind word ≡ 3 → PointerError m place nesting CapabilityRefused
  bad_landing_pad : {word : ℕ} {kind : ErrorKind} → word_at m place ≡ Some word → pointer_kind word ≡ 2 → BadLandingPad m word kind
      → PointerError m place nesting kind
  too_deep : {landing : Target} → Lands m place landing → nesting ≡ 0 → PointerError m place nesting NestingLimitExceeded
  no_start : {landing : Target} → Lands m place landing → 0 < nesting
      → ((start : ℕ) → IsStart landing.origin landing.tag start → ⊥) → PointerError m place nesting PointerOutOfBounds
  misfits : {landing : Target} {words : List ℕ} {start : ℕ} {kind : ErrorKind} → Lands m place landing → 0 < nesting
      → IsStart landing.origin landing.tag start → slice_get m landing.segment ≡ Some words
      → SizeError words start landing.tag kind → PointerError m place nesting kind

-- A walk over the trees at places, in preorder, stops at the first error that it meets.
pub data WalkError (m : List (List ℕ)) : List Place → ℕ → Option ℕ → ErrorKind → Type 0 where
  at_pointer : {place : Place} {others : List Place} {nesting : ℕ} {limit : Option ℕ} {kind : ErrorKind}
      → PointerError m place nesting kind → WalkError m (place ∷ others) nesting limit kind
  over_limit : {place : Place} {others : List Place} {nesting most : ℕ} {shape : Shape} → PointsTo m place shape → 0 < nesting
      → most < shape.traversed → WalkError m (place ∷ others) nesting (Some most) ReadLimitExceeded
  inside : {place : Place} {others : List Place} {nesting : ℕ} {limit : Option ℕ} {shape : Shape} {kind : ErrorKind}
      → PointsTo m place shape → 0 < nesting → Within limit shape.traversed
      → WalkError m shape.children (nesting - 1) (less limit shape.traversed) kind → WalkError m (place ∷ others) nesting limit kind
  later : {place : Place} {others : List Place} {nesting traversed words : ℕ} {limit : Option ℕ} {kind : ErrorKind}
      → TreesAt m (place ∷ []) nesting traversed words → Within limit traversed
      → WalkError m others nesting (less limit traversed) kind → WalkError m (place ∷ others) nesting limit kind
