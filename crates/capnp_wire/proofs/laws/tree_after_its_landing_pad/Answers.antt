-- The law, as TreeReadBackLemmas proves it.
use Rattle.capnp_layout.proofs.trees.TreeReadBackLemmas.{far_tree}
use Rattle.capnp_wire.proofs.laws.tree_after_its_landing_pad.Goals as goal

pub returns : goal.returns
returns c = far_tree
