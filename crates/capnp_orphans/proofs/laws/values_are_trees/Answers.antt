-- The law, as OrphanLaws proves it.
use Rattle.capnp_orphans.specs.OrphanLaws.{their_trees}
use Rattle.capnp_orphans.proofs.laws.values_are_trees.Goals as goal

pub returns : goal.returns
returns g c = their_trees g.V.SetterInput.has_tree
