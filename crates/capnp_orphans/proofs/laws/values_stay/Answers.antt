-- The law, as OrphanLaws proves it.
use Rattle.capnp_orphans.specs.OrphanLaws.{kept_values}
use Rattle.capnp_orphans.proofs.laws.values_stay.Goals as goal

pub returns : goal.returns
returns g c = kept_values g.V.SetterInput.has_tree
