-- A walk over no pointers finds nothing, and a walk over some is in their segment.
use Rattle.std.proofs.Common.{◌<◌, arith}
use Rattle.capnp_frame.proofs.sources.JoinedCallsAdvanceSourceLemmas.{passed_on}
use Rattle.capnp_layout.specs.Prelude.{message_of}
use Rattle.capnp_layout.proofs.words.WordAtPlaceLemmas.{segment_is_there, no_segment_is_there}
use Rattle.capnp_wire.proofs.views.ListValueMeasureLemmas.{none_walked, no_segment_error}
use Rattle.capnp_wire.proofs.layout.list_value.walk_list.Goals as goal

pub returns-then-count-eq0-clause-found : goal.returns-then-count-eq0-clause-found
returns-then-count-eq0-clause-found g c = none_walked (message_of (g.S.ReaderSegments.segments c.args.segments.now)) c.args.first c.args.count c.args.canonical c.args.nesting _ _ c.if-count-eq0.true

pub returns-in_err-segment-clause-errors : goal.returns-in_err-segment-clause-errors
returns-in_err-segment-clause-errors g c =
    let some : 0 < c.args.count = omega arith in
    passed_on _ _ c.from_residual.ensures.1
    (rw c.in_err-segment.ensures.1 (no_segment_error _ c.args.first c.args.count c.args.nesting _ some (no_segment_is_there _ c.args.first.segment c.in_err-segment.ensures.0)))

pub walk_pointers-requires : goal.walk_pointers-requires
walk_pointers-requires g c = record { content = λ some. rw c.run-pointers.ensures.segment (segment_is_there _ c.args.first.segment _ c.in_ok-segment.ensures) }
