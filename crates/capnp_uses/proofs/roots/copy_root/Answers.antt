-- The pointer that is read is the one at the reader's root.
use Rattle.std.proofs.Common.{subst, OnOk, false}
use Rattle.capnp_wire.specs.Prelude.{HasWords, PointsToTree, Pointer}
use Rattle.capnp_build.specs.Prelude.{IsPut}
use Rattle.capnp_uses.proofs.roots.copy_root.Goals as goal

pub returns-clause-placed : goal.returns-clause-placed
returns-clause-placed g c =
    subst (λ (p : Pointer). OnOk c.set_root.result (IsPut g.A.Allocator (HasWords (PointsToTree p) false) c.args.message.now c.set_root.new.self))
    c.in_ok-root.ensures.returned c.set_root.ensures.placed
