-- The law, as OrphanLaws proves it.
use Rattle.capnp_orphans.specs.OrphanLaws.{still_orphan}
use Rattle.capnp_orphans.proofs.laws.orphans_stay.Goals as goal

pub returns : goal.returns
returns c = still_orphan
