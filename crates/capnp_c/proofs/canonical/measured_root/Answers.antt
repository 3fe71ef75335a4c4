-- The root is found, and its form is measured, or one of the two fails.
use Rattle.std.proofs.lemmas.Result.{err_from_is_err_and}
use Rattle.capnp_c.proofs.UniqueCanonicalFormOutcomeLemmas.{root_form_error}
use Rattle.capnp_c.proofs.canonical.measured_root.Goals as goal

pub returns-in_err-root-clause-form_error : goal.returns-in_err-root-clause-form_error
returns-in_err-root-clause-form_error g c =
    let p = err_from_is_err_and c.from_residual.result c.from_residual.ensures.1 in
    rw (p.1, p.2) (root_form_error c.args.arena.now.nesting_limit c.args.arena.now.limiter.limit _ _ c.in_err-root.ensures.returned)
