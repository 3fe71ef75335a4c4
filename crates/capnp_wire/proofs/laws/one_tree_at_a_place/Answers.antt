-- The law, as UniqueObjectLemmas proves it.
use Rattle.capnp_layout.proofs.objects.UniqueObjectLemmas as law
use Rattle.capnp_wire.proofs.laws.one_tree_at_a_place.Goals as goal

pub returns : goal.returns
returns c = law.one_tree
