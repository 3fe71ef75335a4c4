-- The law, as OrphanLaws proves it.
use Rattle.capnp_orphans.specs.OrphanLaws.{keeps_on}
use Rattle.capnp_orphans.proofs.laws.steps_keep_orphans.Goals as goal

pub returns : goal.returns
returns c = keeps_on
