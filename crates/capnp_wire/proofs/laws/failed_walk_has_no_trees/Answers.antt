-- The law, as WalkErrorExcludesTreesLemmas proves it.
use Rattle.capnp_wire.proofs.walks.WalkErrorExcludesTreesLemmas as law
use Rattle.capnp_wire.proofs.laws.failed_walk_has_no_trees.Goals as goal

pub returns : goal.returns
returns c = law.walk_error_has_no_trees
