-- A failure rejects the root, which is null where there was no segment.
use Rattle.capnp_build.proofs.outcomes.SetRootLemmas.{looks_at_root}
use Rattle.capnp_build.proofs.arena.builder_arena.BuilderArena.accept_root.Goals as goal

pub returns : goal.returns
returns g c =
    looks_at_root g.A.Allocator g.K.OwnedBuilder _ _ c.root_kind.result c.root_bytes.result.now c.accept.result c.in_ok-ensure_root.ensures
    c.root_kind.ensures.form c.root_bytes.ensures.form c.accept.ensures.taken c.accept.ensures.form_errors
