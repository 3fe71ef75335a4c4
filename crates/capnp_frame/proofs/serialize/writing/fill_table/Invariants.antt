-- The lengths of the segments before the index are filled in.
use Rattle.std.proofs.Common.{length, ◌-◌, ◌≤◌, take}
use Rattle.capnp_frame.specs.Prelude.{lengths}
use Rattle.capnp_frame.proofs.sinks.TableFilledFieldByFieldLemmas.{IsTableFilled}
use Rattle.capnp_frame.proofs.serialize.writing.fill_table.Given as goal

abbrev pub invariant-loop-segment : goal.invariant-loop-segment
invariant-loop-segment g l = let segments = g.S.ReaderSegments.segments l.segments in
    record {
      within : l.index ≤ length segments;
      filled : IsTableFilled (length segments) (lengths (take l.index segments)) l.table;
    }

abbrev pub decreases-loop-segment : goal.decreases-loop-segment
decreases-loop-segment g l = length (g.S.ReaderSegments.segments l.segments) - l.index
