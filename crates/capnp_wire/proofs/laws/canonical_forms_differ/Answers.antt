-- The law, as LayoutDeterminesTreeLemmas proves it.
use Rattle.capnp_wire.proofs.forms.LayoutDeterminesTreeLemmas.{canon_tells}
use Rattle.capnp_wire.proofs.laws.canonical_forms_differ.Goals as goal

pub returns : goal.returns
returns c = canon_tells
