-- The messages before this index are written.
use Rattle.std.specs.Prelude.{map, take}
use Rattle.std.specs.List.{AllByRecursion}
use Rattle.capnp_frame.specs.Prelude.{IfKnown, Adds, Grows, IsWithinSegmentLimit}
use Rattle.capnp.specs.Prelude.{IsPlainSink, IsEncodingOf, AppendsMessage, AppendsEach}
use Rattle.capnp.proofs.streams.appended.write_messages.Given as goal

abbrev pub invariant-loop-message : goal.invariant-loop-message
invariant-loop-message g l = let W = g.W.Write in let before = map g.S.ReaderSegments.segments (take l.message-index l.messages) in record {
  encoding : IsPlainSink W.appends → IfKnown (W.written l.initial.sink) (W.written l.sink) (Adds (AppendsEach (IsEncodingOf l.format) before));
  written : IfKnown (W.written l.initial.sink) (W.written l.sink) (Adds (AppendsEach (AppendsMessage l.format W.appends) before));
  few : AllByRecursion IsWithinSegmentLimit before;
  grows : Grows W.written W.failures W.same l.initial.sink l.sink;
}
