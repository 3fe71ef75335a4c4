-- The value's tree is the one that the pointer points to.
use Rattle.capnp_wire.specs.Prelude.{pointer_of}
use Rattle.capnp_uses.proofs.RootSetFromPointerTreeLemmas.{canonical_as}
use Rattle.capnp_uses.proofs.setting.set_canonical.Goals as goal
use Rattle.capnp_build.proofs.outcomes.BlockPrefersFirstSegmentLemmas.{on_ok}

pub returns : goal.returns
returns g c =
    let pointer = pointer_of g.S.ReaderSegments.segments c.args.source in
    record {
      set = λ trees is. on_ok c.set_root_canonical.result _ _ (canonical_as pointer c.set_root_canonical.new.self.spaces trees is)
          (c.set_root_canonical.ensures.whole c.requires);
      root = c.set_root_canonical.ensures;
    }
