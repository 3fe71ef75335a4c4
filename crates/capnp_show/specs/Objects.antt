-- What the program finds at pointers (src/objects.rt), in the terms of the crate that reads objects.
use Rattle.std.specs.Prelude.{◌≡◌, ℕ, ◌+◌, ◌-◌, ◌^◌, ◌<◌, min, if◌then◌else◌, List, Option, Some, None, slice_get, IfSome}
use Rattle.capnp.specs.Prelude.{ErrorKind}
use Rattle.capnp_layout.specs.Prelude.{message_of, word_at, Lands, Target, IsStart, ShapeIsAt, IsFarPointer, shape_of, traversed_of, PointerError}
use Rattle.capnp_layout.specs.declared.place.Place.{Place}
use Rattle.capnp_layout.specs.declared.pointer.FarPointer.{FarPointer}
use Rattle.capnp_layout.specs.declared.pointer.StructSize.{StructSize}
use Rattle.capnp_show.specs.declared.objects.Object.{Object}

-- the words of a struct
abbrev pub words_of_struct : StructSize → ℕ
words_of_struct size = size.data_words + size.pointers

-- the words of a landing pad, by the far pointer to it
abbrev pub landing_pad_words : Option FarPointer → ℕ
landing_pad_words None = 0
landing_pad_words (Some far) = if far.is_double_far then 2 else 1

-- a far pointer is at a word of a segment
abbrev pub IsFarIn : List ℕ → ℕ → FarPointer → Type 0
IsFarIn words index far = (pointer : ℕ) × (slice_get words index ≡ Some pointer) × IsFarPointer pointer far

-- the words that an object counts against the limit
abbrev pub object_traversed : Object → ℕ
object_traversed object = landing_pad_words object.far + traversed_of object.body

-- the place a given number of words further; the last one where there is none
abbrev pub further : Place → ℕ → Place
further place words = record { segment = place.segment; word = min (place.word + words) (2 ^ 64 - 1) }

-- The object that the pointer at a place leads to, as a reader finds it.
pub record IsFoundObject (segments : List (List ℕ)) (place : Place) (object : Object) : Type 0 where
  pub landing : Target
  pub lands : Lands (message_of segments) place landing
  pub segment : landing.segment ≡ object.start.segment
  pub begins : IsStart landing.origin landing.tag object.start.word
  -- the words of its segment, and what it is among them
  pub words : List ℕ
  pub content : slice_get (message_of segments) object.start.segment ≡ Some words
  pub is_at : ShapeIsAt words object.start landing.tag (shape_of words object.start object.body)
  pub landing_pads : landing_pad_words object.far ≡ landing.landing_pads
  -- its landing pad is where the pointer says
  pub far_pointer : IfSome object.far (λ far. (word : ℕ) × (word_at (message_of segments) place ≡ Some word) × IsFarPointer word far)

-- the pointer at a place leads to no object, for this reason, at any nesting depth left
abbrev pub PlaceError : List (List ℕ) → Place → ErrorKind → Type 0
PlaceError segments place kind = (nesting : ℕ) → 0 < nesting → PointerError (message_of segments) place nesting kind
