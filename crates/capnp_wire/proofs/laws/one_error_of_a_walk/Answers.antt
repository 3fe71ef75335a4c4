-- The law, as WalkErrorExcludesTreesLemmas proves it.
use Rattle.capnp_wire.proofs.walks.WalkErrorExcludesTreesLemmas as law
use Rattle.capnp_wire.proofs.laws.one_error_of_a_walk.Goals as goal

pub returns : goal.returns
returns c = law.one_walk_error
