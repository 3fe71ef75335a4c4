-- Framed messages. Encoding document, "Serialization Over a Stream".
use Rattle.std.specs.Prelude.{◌≡◌, List, ◌++◌, ℕ}
use Rattle.std.specs.List.{concat, AllByRecursion}
use Rattle.capnp_frame.specs.Message.{IsWholeWords, lengths}
use Rattle.capnp_frame.specs.declared.serialize.segment_table.Padding.{Padding}
use Rattle.capnp_frame.specs.SegmentTable.{IsTable, zero_padded_table}

-- `encoding` is a segment table, whose padding the rule accepts, followed by the bytes of the segments
-- in order.
pub record IsFrame (rule : Padding) (encoding : List ℕ) (segments : List (List ℕ)) : Type 0 where
  pub table : List ℕ
  pub lengths_declared : IsTable rule table (lengths segments)
  pub whole : AllByRecursion IsWholeWords segments
  pub spelled : encoding ≡ table ++ concat segments

-- the frame whose padding is zero, which is the one that is written
abbrev pub frame_bytes : List (List ℕ) → List ℕ
frame_bytes segments = zero_padded_table (lengths segments) ++ concat segments
