-- What is written so far is what the segments before the index add.
use Rattle.std.proofs.Common.{length, ◌-◌, ◌≤◌, take}
use Rattle.capnp_frame.specs.Prelude.{IfKnown, Adds, AppendsAll, Grows}
use Rattle.std.specs.List.{concat}
use Rattle.capnp_frame.proofs.sinks.GrantedChunkLemmas.{StaysGranted}
use Rattle.capnp_frame.proofs.serialize.writing.write_each.Given as goal

abbrev pub invariant-loop-segment : goal.invariant-loop-segment
invariant-loop-segment g l = let W = g.W.Write in let segments = g.S.ReaderSegments.segments l.segments in
    record {
      within : l.index ≤ length segments;
      written : IfKnown (W.written l.initial.sink) (W.written l.sink) (Adds (AppendsAll W.appends (take l.index segments)));
      grows : Grows W.written W.failures W.same l.initial.sink l.sink;
      granted : StaysGranted W.grants l.initial.sink l.sink (length (concat (take l.index segments)));
    }

abbrev pub decreases-loop-segment : goal.decreases-loop-segment
decreases-loop-segment g l = length (g.S.ReaderSegments.segments l.segments) - l.index
