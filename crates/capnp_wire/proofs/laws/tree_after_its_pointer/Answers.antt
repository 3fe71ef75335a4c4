-- The law, as TreeReadBackLemmas proves it.
use Rattle.capnp_layout.proofs.trees.TreeReadBackLemmas.{local_tree}
use Rattle.capnp_wire.proofs.laws.tree_after_its_pointer.Goals as goal

pub returns : goal.returns
returns c = local_tree
