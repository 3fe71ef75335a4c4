-- The segment of the pointer is there, or the call fails.
use Rattle.std.proofs.Common.{sym, subst}
use Rattle.capnp_layout.specs.Prelude.{message_of, PointerError, no_word, no_segment}
use Rattle.capnp_layout.proofs.words.WordAtPlaceLemmas.{segment_is_there, no_segment_is_there}
use Rattle.capnp_frame.proofs.sources.JoinedCallsAdvanceSourceLemmas.{passed_on}
use Rattle.capnp_layout.proofs.object.object_at.Goals as goal

pub returns-in_err-segment-clause-errors : goal.returns-in_err-segment-clause-errors
returns-in_err-segment-clause-errors g c =
    passed_on _ _ c.from_residual.ensures.1 (subst (PointerError (message_of (g.S.ReaderSegments.segments c.args.segments.now)) c.args.place c.args.nesting) (sym c.in_err-segment.ensures.1)
    (no_word (no_segment (no_segment_is_there _ c.args.place.segment c.in_err-segment.ensures.0))))

pub object_in-requires : goal.object_in-requires
object_in-requires g c = record { content = segment_is_there _ c.args.place.segment _ c.in_ok-segment.ensures }
