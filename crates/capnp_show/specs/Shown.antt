-- What is listed of a message, and when output is written on (src/messages.rt, src/shown.rt).
use Rattle.std.specs.Prelude.{◌≡◌, ◌<◌, ◌≤◌, ◌-◌, ◌^◌, ℕ, List, [], Option, length, min, take}
use Rattle.capnp_frame.specs.Prelude.{size_in_words, Appending, Adds, IfKnown}
use Rattle.capnp_frame.specs.declared.serialize.segment_table.TheConstants.{SEGMENTS_COUNT_LIMIT}
use Rattle.capnp_show.specs.declared.listing.Listed.{Listed}

-- What is listed of a message with these segments: its place, and how many segments and words it has. A
-- message that is read has fewer than SEGMENTS_COUNT_LIMIT segments; of others only this many are listed.
pub record Lists (number start size : ℕ) (message : List (List ℕ)) (listed : Listed) : Type 0 where
  pub index : listed.index ≡ number
  pub offset : listed.offset ≡ start
  pub bytes : listed.bytes ≡ size
  pub segments : listed.segments ≡ min (length message) SEGMENTS_COUNT_LIMIT
  pub words : listed.words ≡ min (size_in_words (take SEGMENTS_COUNT_LIMIT message)) (2 ^ 64 - 1)

-- Output that was `old` is `new`, and a sink that was known to hold `before` holds `after`. Output of `most`
-- bytes or more is written unchanged and cleared. Shorter output stays, and nothing is written.
pub record WritesFull (most : ℕ) (appends : Appending) (old new : List ℕ) (before after : Option (List ℕ))
    : Type 0 where
  pub kept : length old < most → new ≡ old
  pub unwritten : length old < most → after ≡ before
  pub cleared : most ≤ length old → new ≡ []
  pub written : most ≤ length old → IfKnown before after (Adds (appends old))
