-- The law, as OrphanLaws proves it.
use Rattle.capnp_orphans.specs.OrphanLaws.{one_value_more}
use Rattle.capnp_orphans.proofs.laws.next_value.Goals as goal

pub returns : goal.returns
returns g c = one_value_more g.V.SetterInput.has_tree
