-- The law, as ObjectIsOrphanLemmas proves it.
use Rattle.capnp_orphans.proofs.ObjectIsOrphanLemmas.{null_is_orphan}
use Rattle.capnp_orphans.proofs.laws.null_is_an_orphan.Goals as goal

pub returns : goal.returns
returns c = null_is_orphan
