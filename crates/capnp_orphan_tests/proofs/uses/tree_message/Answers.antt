-- The root is the tree.
use Rattle.std.proofs.Common.{◌∷◌, [], subst}
use Rattle.capnp_layout.specs.Prelude.{Trees, message_of, At, root}
use Rattle.capnp_orphans.specs.OrphanLaws.{root_of_value}
use Rattle.capnp_orphan_tests.specs.Uses.{IsBinary}
use Rattle.capnp_orphan_tests.proofs.uses.tree_message.Goals as goal

pub returns : goal.returns
returns c =
    let r = root_of_value (IsBinary c.args.depth c.args.number) c.in_ok-root.root.word c.tree.new.objects c.set_root.new.self c.in_ok-root.ensures.orphan c.set_root.ensures in
    (r.2.0, subst (λ (t : Trees). At (message_of (c.set_root.new.self.bytes ∷ [])) (root ∷ []) t r.2.0) r.1 r.2.1)
