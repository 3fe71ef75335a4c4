-- The law, as UniquePointerErrorLemmas proves it.
use Rattle.capnp_layout.proofs.pointers.UniquePointerErrorLemmas as law
use Rattle.capnp_wire.proofs.laws.one_error_at_a_place.Goals as goal

pub returns : goal.returns
returns c = law.one_error
