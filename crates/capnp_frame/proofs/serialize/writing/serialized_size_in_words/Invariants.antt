-- The words so far are the words of the table and of the segments before the index.
use Rattle.std.proofs.Common.{◌≡◌, length, ◌+◌, ◌-◌, ◌/◌, ◌≤◌, ◌<◌, ◌^◌, take}
use Rattle.capnp_frame.specs.Prelude.{size_in_words}
use Rattle.capnp_frame.proofs.serialize.writing.serialized_size_in_words.Given as goal

abbrev pub invariant-loop-segment : goal.invariant-loop-segment
invariant-loop-segment g l = let segments = g.S.ReaderSegments.segments l.segments in
    record {
      within : l.index ≤ length segments;
      fits : l.words < 2 ^ 64;
      words : l.words ≡ length segments / 2 + 1 + size_in_words (take l.index segments);
    }

abbrev pub decreases-loop-segment : goal.decreases-loop-segment
decreases-loop-segment g l = length (g.S.ReaderSegments.segments l.segments) - l.index
