-- The law, as LayoutDeterminesTreeLemmas proves it.
use Rattle.capnp_wire.proofs.forms.LayoutDeterminesTreeLemmas.{root_of_canon}
use Rattle.capnp_wire.proofs.laws.root_of_a_canonical_form.Goals as goal

pub returns : goal.returns
returns c = root_of_canon
