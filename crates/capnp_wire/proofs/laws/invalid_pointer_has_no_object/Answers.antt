-- The law, as ErrorExcludesObjectLemmas proves it.
use Rattle.capnp_layout.proofs.pointers.ErrorExcludesObjectLemmas as law
use Rattle.capnp_wire.proofs.laws.invalid_pointer_has_no_object.Goals as goal

pub returns : goal.returns
returns c = law.invalid_pointer_has_no_object
