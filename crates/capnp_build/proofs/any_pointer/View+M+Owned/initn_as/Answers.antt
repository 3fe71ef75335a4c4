-- The call fails as making the object does.
use Rattle.std.proofs.lemmas.Result.{err_from_is_err_and}
use Rattle.capnp_build.proofs.outcomes.InitRootLemmas.{init_error}
use Rattle.capnp_build.proofs.any_pointer.«View+M+Owned».initn_as.Goals as goal

pub returns-in_err-init : goal.returns-in_err-init
returns-in_err-init g c =
    let p = err_from_is_err_and c.from_residual.result c.from_residual.ensures.1 in
    rw (p.1, p.2) (init_error _ g.K.OwnedBuilder c.args.n g.M.Building.built (λ view. view.message) c.args.self.message _ _ c.in_err-init.ensures.inits)
