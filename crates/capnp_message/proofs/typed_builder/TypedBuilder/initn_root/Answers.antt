-- The call fails as making the object does, and leaves a null root.
use Rattle.std.proofs.Common.{refl}
use Rattle.std.proofs.lemmas.Result.{err_from_is_err_and}
use Rattle.capnp_build.proofs.outcomes.InitRootLemmas.{init_error}
use Rattle.capnp_message.proofs.typed_builder.TypedBuilder.initn_root.Goals as goal

pub returns-in_err-init : goal.returns-in_err-init
returns-in_err-init g c =
    let p = err_from_is_err_and c.from_residual.result c.from_residual.ensures.1 in
    let told = c.in_err-init.ensures.inits in
    rw (p.1, p.2) (
      (refl, λ w. tt, record { cleared = told.nulled; kind = told.kind; none = told.none }),
      record { rests = tt; inits = init_error g.A.Allocator g.T.OwnedBuilder c.args.n (λ typed. typed) (λ view. view.message) c.args.self _ _ told },
    )
