-- The value's tree is the one that the pointer points to.
use Rattle.capnp_wire.specs.Prelude.{pointer_of}
use Rattle.capnp_uses.proofs.RootSetFromPointerTreeLemmas.{set_as}
use Rattle.capnp_uses.proofs.setting.set_tree.Goals as goal
use Rattle.capnp_build.proofs.outcomes.BlockPrefersFirstSegmentLemmas.{on_ok}

pub returns : goal.returns
returns g c =
    let pointer = pointer_of g.S.ReaderSegments.segments c.args.source in
    record {
      set = λ form children is. on_ok c.set_root.result _ _ (set_as pointer c.set_root.new.self.spaces form children is) c.set_root.ensures.set;
      root = c.set_root.ensures;
    }
