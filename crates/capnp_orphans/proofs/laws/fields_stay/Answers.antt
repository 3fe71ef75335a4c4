-- The law, as ResizedDataFieldLemmas proves it.
use Rattle.capnp_orphans.proofs.ResizedDataFieldLemmas.{field_in}
use Rattle.capnp_orphans.proofs.laws.fields_stay.Goals as goal

pub returns : goal.returns
returns c = field_in
