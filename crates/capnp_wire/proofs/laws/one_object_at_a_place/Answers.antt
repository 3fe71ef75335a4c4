-- The law, as UniqueObjectLemmas proves it.
use Rattle.capnp_layout.proofs.objects.UniqueObjectLemmas.{one_object}
use Rattle.capnp_wire.proofs.laws.one_object_at_a_place.Goals as goal

pub returns : goal.returns
returns c = one_object
