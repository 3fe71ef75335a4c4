-- Counted group by group.
use Rattle.capnp_pack.proofs.packing.SizeBoundLemmas.{Packs-short}
use Rattle.capnp_pack.proofs.laws.packed_encoding_is_short.Goals as goal

pub returns : goal.returns
returns c = Packs-short
