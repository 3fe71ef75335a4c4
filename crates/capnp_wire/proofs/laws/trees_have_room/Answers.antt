-- The law, as ReadTreeSizesAndWordsBoundedLemmas proves it.
use Rattle.capnp_layout.proofs.trees.ReadTreeSizesAndWordsBoundedLemmas.{read_has_room}
use Rattle.capnp_wire.proofs.laws.trees_have_room.Goals as goal

pub returns : goal.returns
returns c = read_has_room
