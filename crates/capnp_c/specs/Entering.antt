-- What is known of an object that a pointer of C points to (src/reading/entered.rt).
use Rattle.std.specs.Prelude.{◌≡◌, ℕ, ◌+◌, ◌-◌, ◌*◌, ◌≤◌, List, length, take, drop}
use Rattle.capnp_layout.specs.Prelude.{message_of, words_of, words_from, room_of, less}
use Rattle.capnp_wire.specs.Prelude.{Pointer, IsEntered}
use Rattle.capnp_c.specs.Options.{limit_of_number}
use Rattle.capnp_c.specs.Reading.{pointer_by}
use Rattle.capnp_c.specs.Segments.{segments_from}
use Rattle.capnp_c.specs.declared.reading.entered.Entered.{Entered}
use Rattle.capnp_c.specs.declared.reading.place.LinsjoarPlace.{LinsjoarPlace}
use Rattle.capnp_c.specs.declared.reading.reader.LinsjoarReader.{LinsjoarReader}
use Rattle.capnp_c.specs.declared.reading.segments.MessageSegments.{MessageSegments}

-- the message that these are the segments of
abbrev pub message_among : MessageSegments → List (List ℕ)
message_among segments = message_of (segments_from segments.begins.now segments.count segments.bytes.now)

-- the pointer at a place of it, within what is left of a reader's limit
abbrev pub pointer_among : MessageSegments → LinsjoarReader → LinsjoarPlace → Pointer
pointer_among segments reader place = pointer_by (message_among segments) (limit_of_number reader.words_left) place

-- The object that a pointer points to, and where it is in the bytes.
pub record Enters (pointer : Pointer) (bytes : List ℕ) (entered : Entered) : Type 0 where
  pub object : IsEntered pointer entered.object
  pub within : entered.start + 8 * room_of entered.object.body ≤ length bytes
  pub words : let room = room_of entered.object.body in
      words_from (words_of entered.object.segment.now) entered.object.start.word room ≡ words_of (take (8 * room) (drop entered.start bytes))
  pub left : limit_of_number entered.words_left ≡ less pointer.limit entered.object.traversed
  pub nesting : entered.nesting ≡ pointer.nesting - 1
