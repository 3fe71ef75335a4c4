-- A far pointer points to its object through a landing pad of one word, or of two.
use Rattle.std.proofs.Common.{◌≡◌, ℕ, Some, sym, subst}
use Rattle.capnp_layout.specs.Prelude.{IsFarPointer, HasWideLandingPad, message_of, word_at, landing_pad, BadLandingPad, no_tag}
use Rattle.capnp_frame.proofs.sources.JoinedCallsAdvanceSourceLemmas.{passed_on}
use Rattle.capnp_layout.proofs.pointers.LandingPadTargetsAndErrorsLemmas.{not_is_true, not_is_false, narrow_landing, landing_pad_word, no_second_word, no_landing_pad_segment, no_landing_pad_word, narrow_error, is_narrow}
use Rattle.capnp_layout.proofs.pointers.LandingPadTargetsAndErrorsLemmas.{is_double_far, wide_landing_pad, wide_found, wide_errors}
use Rattle.capnp_layout.proofs.landing_pad.resolve_far.Given as given
use Rattle.capnp_layout.proofs.landing_pad.resolve_far.Goals as goal
use Rattle.capnp_layout.proofs.landing_pad.resolve_far.Goals.{In_ok-first, In_ok-tag}

-- the landing pad's first word is in the message
first_there : (g : given.Over) (c : In_ok-first g) (word : ℕ) → IsFarPointer word c.args.far → word_at (message_of (g.S.ReaderSegments.segments c.args.segments.now))
    (landing_pad word) ≡ Some c.in_ok-first.first
first_there g c word far_is = landing_pad_word _ word c.args.far _ c.in_ok-first.first far_is c.in_ok-landing_pad.ensures c.in_ok-first.ensures.0

pub returns-in_err-landing_pad-clause-errors : goal.returns-in_err-landing_pad-clause-errors
returns-in_err-landing_pad-clause-errors g c =
    passed_on _ _ c.from_residual.ensures.1 (λ word far_is. no_landing_pad_segment _ word c.args.far _ far_is c.in_err-landing_pad.ensures.0 c.in_err-landing_pad.ensures.1)

pub returns-in_err-first-clause-errors : goal.returns-in_err-first-clause-errors
returns-in_err-first-clause-errors g c =
    passed_on _ _ c.from_residual-in_err-first.ensures.1 (λ word far_is. no_landing_pad_word _ word c.args.far _ _ far_is c.in_ok-landing_pad.ensures c.in_err-first.ensures.0 c.in_err-first.ensures.1)

pub returns-in_err-local-clause-errors : goal.returns-in_err-local-clause-errors
returns-in_err-local-clause-errors g c =
    passed_on _ _ c.from_residual-in_err-local.ensures.1 (λ word far_is.
    narrow_error _ word c.in_ok-first.first _ (is_narrow word c.args.far far_is (not_is_true c.args.far.is_double_far c.if-not-far.true))
    (first_there g (goal.at.returns-in_err-local-clause-errors g c).In_ok-first word far_is) c.in_err-local.ensures.errors)

pub returns-then-not-far-clause-found : goal.returns-then-not-far-clause-found
returns-then-not-far-clause-found g c = λ place word there far_is.
    let landed = c.resolve_local.ensures in
    narrow_landing _ place word c.args.far _ c.in_ok-first.first c.in_ok-local.local c.resolve_local.result there far_is (not_is_true c.args.far.is_double_far c.if-not-far.true)
    c.in_ok-landing_pad.ensures c.in_ok-first.ensures.0 c.in_ok-local.ensures.found
    (record { segment = landed.segment; number = landed.number; shape = landed.shape; landing_pads_are = landed.landing_pads; start = landed.start })

pub returns-in_err-tag-clause-errors : goal.returns-in_err-tag-clause-errors
returns-in_err-tag-clause-errors g c =
    passed_on _ _ c.from_residual-in_err-tag.ensures.1 (λ word far_is. subst (BadLandingPad _ word) (sym c.in_err-tag.ensures.1)
    (no_tag (is_double_far word c.args.far far_is (not_is_false c.args.far.is_double_far c.if-not-far.false))
    (first_there g (goal.at.returns-in_err-tag-clause-errors g c).In_ok-first word far_is)
    (no_second_word _ word c.args.far _ far_is c.in_ok-landing_pad.ensures c.in_err-tag.ensures.0)))

-- the landing pad has two words
both_there : (g : given.Over) (c : In_ok-tag g) (word : ℕ) → IsFarPointer word c.args.far
    → HasWideLandingPad (message_of (g.S.ReaderSegments.segments c.args.segments.now)) word c.in_ok-first.first c.in_ok-tag.tag
both_there g c word far_is =
    wide_landing_pad _ word c.args.far far_is (not_is_false c.args.far.is_double_far c.if-not-far.false) c.in_ok-landing_pad.ensures c.in_ok-first.ensures.0 c.in_ok-tag.ensures.0

pub returns-clause-found : goal.returns-clause-found
returns-clause-found g c = wide_found c.resolve_double_far.result (both_there g (goal.at.returns-clause-found g c).In_ok-tag) c.resolve_double_far.ensures.found

pub returns-clause-errors : goal.returns-clause-errors
returns-clause-errors g c = wide_errors c.resolve_double_far.result (both_there g (goal.at.returns-clause-errors g c).In_ok-tag) c.resolve_double_far.ensures.errors
