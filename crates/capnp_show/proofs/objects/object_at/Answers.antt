-- What a pointer leads to, and each error on the way.
use Rattle.std.proofs.Common.{sym, subst}
use Rattle.capnp_frame.proofs.sources.JoinedCallsAdvanceSourceLemmas.{passed_on}
use Rattle.capnp_layout.specs.Prelude.{words_of, message_of, IsStart, IsLanding, PointerError, no_word, no_segment, no_start, misfits}
use Rattle.capnp_layout.proofs.words.WordAtPlaceLemmas.{segment_is_there, no_segment_is_there}
use Rattle.capnp_show.proofs.FarPointerLandingPadSizeLemmas.{landing_pad_is}
use Rattle.capnp_show.proofs.objects.object_at.Goals as goal

pub returns-in_err-pointers-clause-errors : goal.returns-in_err-pointers-clause-errors
returns-in_err-pointers-clause-errors g c = passed_on _ _ c.from_residual.ensures.1 (λ nesting some.
    subst (PointerError (message_of (g.S.ReaderSegments.segments c.args.segments.now)) c.args.place nesting) (sym c.in_err-pointers.ensures.1)
    (no_word (no_segment (no_segment_is_there _ c.args.place.segment c.in_err-pointers.ensures.0))))

pub resolve-requires : goal.resolve-requires
resolve-requires g c = record { content = segment_is_there _ c.args.place.segment _ c.in_ok-pointers.ensures }

pub returns-in_default-start-clause-errors : goal.returns-in_default-start-clause-errors
returns-in_default-start-clause-errors g c = λ nesting some.
    let m = message_of (g.S.ReaderSegments.segments c.args.segments.now) in
    let landing : IsLanding m c.args.place c.in-Some.landing = rw c.in-Some.is at c.in_ok-landing.ensures.found in
    subst (PointerError m c.args.place nesting) (sym c.from_kind.ensures) (no_start landing.lands some (rw c.in_default-start.is at landing.start))

pub returns-in_err-body-clause-errors : goal.returns-in_err-body-clause-errors
returns-in_err-body-clause-errors g c = passed_on _ _ c.from_residual-in_err-body.ensures.1 (λ nesting some.
    let m = message_of (g.S.ReaderSegments.segments c.args.segments.now) in
    let landing : IsLanding m c.args.place c.in-Some.landing = rw c.in-Some.is at c.in_ok-landing.ensures.found in
    let begins : IsStart landing.landing.origin landing.landing.tag c.in-Some-start.start = rw c.in-Some-start.is at landing.start in
    misfits landing.lands some begins landing.content (c.in_err-body.ensures.errors landing.landing.tag landing.shape))

pub returns-clause-found : goal.returns-clause-found
returns-clause-found g c =
    let m = message_of (g.S.ReaderSegments.segments c.args.segments.now) in
    let landing : IsLanding m c.args.place c.in-Some.landing = rw c.in-Some.is at c.in_ok-landing.ensures.found in
    let pointers = segment_is_there _ c.args.place.segment _ c.in_ok-pointers.ensures in
    let landing_pad = landing_pad_is m c.args.place _ landing.landing c.far_pointer_in.result landing.lands pointers c.far_pointer_in.ensures in
    record {
      landing = landing.landing;
      lands = landing.lands;
      segment = landing.number;
      begins = rw c.in-Some-start.is at landing.start;
      words = words_of c.in-Some.landing.segment.now;
      content = rw (← landing.number) landing.content;
      is_at = c.in_ok-body.ensures.found landing.landing.tag c.in-Some.landing.number landing.shape;
      landing_pads = landing_pad.0;
      far_pointer = landing_pad.1;
    }
