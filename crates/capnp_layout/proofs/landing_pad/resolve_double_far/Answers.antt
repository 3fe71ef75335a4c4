-- The first word of a landing pad of two words says where the object is, the second what it is.
use Rattle.std.proofs.Common.{◌≡◌, ℕ, None, slice_get, sym, ap, ◌∙◌, subst, refl}
use Rattle.capnp_layout.specs.Prelude.{landing_pad_segment, message_of, landing_pad, IsFar, BadLandingPad, not_far, no_content}
use Rattle.capnp_layout.specs.declared.place.Place.{Place}
use Rattle.capnp_frame.specs.declared.error.ErrorKind.TheVariants.{InvalidSegmentId}
use Rattle.capnp_layout.proofs.words.WordAtPlaceLemmas.{segment_is_there, no_segment_is_there}
use Rattle.capnp_frame.proofs.sources.JoinedCallsAdvanceSourceLemmas.{passed_on}
use Rattle.capnp_layout.proofs.pointers.LandingPadTargetsAndErrorsLemmas.{wide_error, is_far_word, not_far_word, wide_landing, content_place}
use Rattle.capnp_layout.proofs.landing_pad.resolve_double_far.Given as given
use Rattle.capnp_layout.proofs.landing_pad.resolve_double_far.Goals as goal
use Rattle.capnp_layout.proofs.landing_pad.resolve_double_far.Goals.{In_ok-content}

-- the first word says where the object is
record Content (g : given.Over) (c : In_ok-content g) : Type 0 where
  is_far : IsFar c.args.first 0
  place : c.in_ok-content.content ≡ landing_pad c.args.first

content_there : (g : given.Over) (c : In_ok-content g) → Content g c
content_there g c =
    let content = c.in_ok-content.ensures in
    record {
      is_far = is_far_word c.args.first content.0 content.1.0 content.1.1;
      place = content_place c.args.first content.0 c.in_ok-content.content content.1.0 content.2;
    }

pub returns-in_err-content-clause-errors : goal.returns-in_err-content-clause-errors
returns-in_err-content-clause-errors g c =
    passed_on _ _ c.from_residual.ensures.1 (λ word landing_pad.
    subst (BadLandingPad _ word) (sym c.in_err-content.ensures.1) (not_far landing_pad.wide.wide landing_pad.first_there landing_pad.tag_there (not_far_word c.args.first c.in_err-content.ensures.0)))

pub returns-in_err-segment-clause-errors : goal.returns-in_err-segment-clause-errors
returns-in_err-segment-clause-errors g c =
    let m = message_of (g.S.ReaderSegments.segments c.args.segments.now) in
    let content = content_there g (goal.at.returns-in_err-segment-clause-errors g c).In_ok-content in
    let number : c.in_ok-content.content.segment ≡ landing_pad_segment c.args.first = ap (λ (x : Place). x.segment) content.place in
    let none = subst (λ (n : ℕ). slice_get m n ≡ None) number (no_segment_is_there _ c.in_ok-content.content.segment c.in_err-segment.ensures.0) in
    passed_on _ _ c.from_residual-in_err-segment.ensures.1 (λ word landing_pad.
    subst (BadLandingPad m word) (sym (c.in_err-segment.ensures.1 ∙ ap InvalidSegmentId number)) (no_content landing_pad.wide.wide landing_pad.first_there landing_pad.tag_there content.is_far none))

pub returns-in_err-local-clause-errors : goal.returns-in_err-local-clause-errors
returns-in_err-local-clause-errors g c =
    let segments = g.S.ReaderSegments.segments c.args.segments.now in
    let content = content_there g (goal.at.returns-in_err-local-clause-errors g c).In_ok-content in
    let there = rw (ap (λ (x : Place). x.segment) content.place) at (segment_is_there segments c.in_ok-content.content.segment _ c.in_ok-segment.ensures) in
    passed_on _ _ c.from_residual-in_err-local.ensures.1 (λ word landing_pad.
    wide_error _ word c.args.first c.args.tag _ _ landing_pad.wide.wide landing_pad.first_there landing_pad.tag_there content.is_far there c.in_err-local.ensures.errors)

pub returns-clause-found : goal.returns-clause-found
returns-clause-found g c = λ place word there landing_pad.
    let segments = g.S.ReaderSegments.segments c.args.segments.now in
    let content = content_there g (goal.at.returns-clause-found g c).In_ok-content in
    wide_landing _ place c.in_ok-content.content word c.args.first c.args.tag c.in_ok-local.local _ _ there
    landing_pad.wide landing_pad.first_there content.is_far landing_pad.tag_there
    content.place (segment_is_there segments c.in_ok-content.content.segment _ c.in_ok-segment.ensures) c.in_ok-local.ensures.found refl refl refl refl refl
