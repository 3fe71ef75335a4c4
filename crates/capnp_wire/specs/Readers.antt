-- What contracts see of readers (src/arena/reader_arena.rt, src/any_pointer/reader.rt,
-- src/any_struct/reader.rt).
use Rattle.std.specs.Prelude.{◌≡◌, ℕ, ◌+◌, ◌-◌, ◌^◌, ◌<◌, ℤ, pos, negsuc, List, [], ◌∷◌, Option, Some, None}
use denote.Ref.{Bor}
use Rattle.capnp_frame.specs.Prelude.{default_limit}
use Rattle.capnp_frame.specs.declared.message.segments.ReaderSegments.{Ghosts}
use Rattle.capnp_layout.specs.Prelude.{words_of, words_from, Form, message_of, places, root, Within, IsObject, shape_of}
use Rattle.capnp_wire.specs.Views.{Pointer, Struct}
use Rattle.capnp_wire.specs.Parts.{own_data}
use Rattle.capnp_layout.specs.declared.place.Place.{Place}
use Rattle.capnp_layout.specs.declared.object.Object.{Object as ReadObject}
use Rattle.capnp_wire.specs.declared.any_pointer.reader.Reader.{Reader}
use Rattle.capnp_wire.specs.declared.read_limiter.ReadLimiter.{ReadLimiter}
use Rattle.capnp_wire.specs.declared.any_struct.reader.StructReader.{StructReader}

-- a nesting limit below 0 counts as 0
abbrev pub nesting_of : ℤ → ℕ
nesting_of (pos nesting) = nesting
nesting_of (negsuc n) = 0

-- the most words that may be read; readers of a builder have no limiter
abbrev pub limit_of : Option (Bor ReadLimiter) → Option ℕ
limit_of None = None
limit_of (Some limiter) = limiter.now.limit

-- the pointer of a reader, in the message that its segments are
abbrev pub pointer_of : {S : Type 0} → (S → List (List ℕ)) → Reader S → Pointer
pointer_of segments reader = record {
  message = message_of (segments reader.segments.now);
  place = reader.place;
  nesting = reader.nesting;
  limit = limit_of reader.limiter;
}

-- the place of the root; where there is no first segment it has none, and is null
abbrev pub root_place : List (List ℕ) → Option Place
root_place [] = None
root_place (segment ∷ segments) = Some root

-- the root of segments that are read without limits, as in a message that is built
abbrev pub unlimited_root : List (List ℕ) → Pointer
unlimited_root segments = record { message = message_of segments; place = root_place segments; nesting = 2 ^ 31 - 1; limit = None }

-- the root of segments that are read by the default options
abbrev pub default_root : List (List ℕ) → Pointer
default_root segments = record { message = message_of segments; place = Some root; nesting = 64; limit = default_limit }

-- the struct of a reader
abbrev pub struct_of : {S : Type 0} {ghosts : Ghosts S} → (S → List (List ℕ)) → StructReader S ghosts → Struct
struct_of segments reader = record {
  message = message_of (segments reader.segments.now);
  words = own_data reader.part (words_from (words_of reader.segment.now) reader.start.word reader.size.data_words);
  children = places reader.start.segment (reader.start.word + reader.size.data_words) reader.size.pointers;
  nesting = reader.nesting;
  limit = limit_of reader.limiter;
}

-- an object that the pointer points to, whose words are within the traversal limit
pub record IsEntered (pointer : Pointer) (object : ReadObject) : Type 0 where
  pub place : Place
  pub is_at : pointer.place ≡ Some place
  pub object_is : IsObject pointer.message place object
  pub nesting : 0 < pointer.nesting
  pub within : Within pointer.limit object.traversed

-- the form of an object that was read
abbrev pub form_of : ReadObject → Form
form_of object = (shape_of (words_of object.segment.now) object.start object.body).form
