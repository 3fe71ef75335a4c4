-- The law, as CycleExcludesTreeLemmas proves it.
use Rattle.capnp_layout.proofs.objects.CycleExcludesTreeLemmas as law
use Rattle.capnp_wire.proofs.laws.cycle_has_no_tree.Goals as goal

pub returns : goal.returns
returns c = law.no_cycle
