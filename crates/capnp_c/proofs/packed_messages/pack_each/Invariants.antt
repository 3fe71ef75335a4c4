-- The segments before the index are packed.
use Rattle.std.proofs.Common.{length, ◌-◌, ◌≤◌, take, Ok}
use Rattle.capnp_c.specs.Packing.{PacksChunks}
use Rattle.capnp_c.proofs.packed_messages.pack_each.Given as goal

abbrev pub invariant-loop-segment : goal.invariant-loop-segment
invariant-loop-segment g l = let segments = g.S.ReaderSegments.segments l.segments in
    record {
      within : l.index ≤ length segments;
      packs : PacksChunks {X = Unit {0}} g.W.Write l.initial.sink l.sink (take l.index segments) (Ok tt);
    }

abbrev pub decreases-loop-segment : goal.decreases-loop-segment
decreases-loop-segment g l = length (g.S.ReaderSegments.segments l.segments) - l.index
