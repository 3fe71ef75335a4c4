-- The segments before the index can be written.
use Rattle.std.proofs.Common.{◌≤◌, length, take}
use Rattle.std.specs.List.{AllByRecursion}
use Rattle.capnp_frame.proofs.sinks.WritableSegmentBySegmentLemmas.{IsWholeSegment}
use Rattle.capnp_frame.proofs.serialize.writable.is_writable.Given as goal

abbrev pub invariant-loop-id : goal.invariant-loop-id
invariant-loop-id g l = let segments = g.S.ReaderSegments.segments l.segments in record {
  within : l.id ≤ length segments;
  whole : AllByRecursion IsWholeSegment (take l.id segments);
}
