-- What is measured is the form of the message's root.
use Rattle.std.proofs.Common.{subst}
use Rattle.std.proofs.lemmas.Result.{err_from_is_err_and}
use Rattle.capnp_c.specs.Fronts.{RootHasForm, RootCanonicalFormError}
use Rattle.capnp_c.proofs.canonical.measured.Goals as goal

pub returns-in_err-arena-clause-form_error : goal.returns-in_err-arena-clause-form_error
returns-in_err-arena-clause-form_error c segments rest front = let never = c.in_err-arena.ensures.accepted segments rest front in absurd (cc)

pub returns-in_err-size-clause-form_error : goal.returns-in_err-size-clause-form_error
returns-in_err-size-clause-form_error c segments rest front =
    let p = err_from_is_err_and c.from_residual-in_err-size.result c.from_residual-in_err-size.ensures.1 in
    rw (p.1, p.2) (subst (λ pointer. RootCanonicalFormError pointer c.in_err-size.field-0.0.kind) (c.in_ok-arena.ensures.front segments rest front) c.in_err-size.ensures.form_error)

pub returns-clause-size : goal.returns-clause-size
returns-clause-size c segments rest front = subst (λ pointer. RootHasForm pointer c.in_ok-size.size) (c.in_ok-arena.ensures.front segments rest front) c.in_ok-size.ensures.size

pub returns-in_err-arena-clause-exact : goal.returns-in_err-arena-clause-exact
returns-in_err-arena-clause-exact c kind errors =
    let p = err_from_is_err_and c.from_residual.result c.from_residual.ensures.1 in
    rw (p.1, p.2) (c.in_err-arena.ensures.exact kind errors)

pub returns-in_err-size-clause-exact : goal.returns-in_err-size-clause-exact
returns-in_err-size-clause-exact c kind errors = absurd (c.in_ok-arena.ensures.exact kind errors)

pub returns-clause-exact : goal.returns-clause-exact
returns-clause-exact c kind errors = absurd (c.in_ok-arena.ensures.exact kind errors)
