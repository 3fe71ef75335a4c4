-- The law, as OrphanLaws proves it.
use Rattle.capnp_orphans.specs.OrphanLaws.{kept_orphans}
use Rattle.capnp_orphans.proofs.laws.orphans_in_order_stay.Goals as goal

pub returns : goal.returns
returns c = kept_orphans
