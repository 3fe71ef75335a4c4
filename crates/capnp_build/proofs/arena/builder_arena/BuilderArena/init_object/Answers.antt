-- The root is cleared first, and then the object is placed.
use Rattle.std.proofs.Common.{Option, subst}
use Rattle.capnp_build.specs.Prelude.{new_form, zero_form}
use Rattle.capnp_build.specs.declared.object.NewBody.{NewBody}
use Rattle.capnp_build.proofs.outcomes.InitRootLemmas.{inits_root, inits_null}
use Rattle.capnp_build.proofs.arena.builder_arena.BuilderArena.init_object.Goals as goal

pub returns-in-None : goal.returns-in-None
returns-in-None g c =
    inits_null g.A.Allocator g.K.OwnedBuilder c.args.n _ _ c.in_ok-clear_root.ensures
    (subst (λ (o : Option NewBody). g.K.OwnedBuilder.inits c.args.n (new_form o)) c.in-None.is c.in_ok-body.ensures.inits)

pub returns-in-Some : goal.returns-in-Some
returns-in-Some g c =
    inits_root g.A.Allocator g.K.OwnedBuilder c.args.n (zero_form c.in-Some.body) _ _ _ c.put_new.result g.met.A.Allocator.keeps c.in_ok-clear_root.ensures
    (subst (λ (o : Option NewBody). g.K.OwnedBuilder.inits c.args.n (new_form o)) c.in-Some.is c.in_ok-body.ensures.inits) c.put_new.ensures
