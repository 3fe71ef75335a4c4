-- The arena is over the message that is there.
use Rattle.std.proofs.Common.{ap, ◌∙◌}
use Rattle.std.proofs.lemmas.Result.{err_from_is_err_and}
use Rattle.capnp_c.proofs.UniqueFrontMessageLemmas.{one_front, same_root}
use Rattle.capnp_c.proofs.canonical.opened.Goals as goal

pub returns-clause-front : goal.returns-clause-front
returns-clause-front c segments rest front =
    let found = c.in_ok-segments.ensures.reads.found in
    let own = ap (λ message. message.segments) c.new.ensures.segments ∙ one_front c.args.options c.args.bytes.now found.0 rest c.in_ok-segments.segments.segments segments found.1 front in
    same_root c.args.options _ _ _ segments c.new.ensures.nesting c.new.ensures.limit own

pub returns-in_err-segments-clause-accepted : goal.returns-in_err-segments-clause-accepted
returns-in_err-segments-clause-accepted c segments rest front =
    let never = c.in_err-segments.ensures.reads.accepted segments rest front in absurd (cc)

pub returns-in_err-segments-clause-exact : goal.returns-in_err-segments-clause-exact
returns-in_err-segments-clause-exact c kind errors =
    let p = err_from_is_err_and c.from_residual.result c.from_residual.ensures.1 in
    rw (p.1, p.2) (c.in_err-segments.ensures.reads.exact kind errors)

pub returns-clause-exact : goal.returns-clause-exact
returns-clause-exact c kind errors = absurd (c.in_ok-segments.ensures.reads.exact kind errors)
