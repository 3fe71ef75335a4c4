-- The words determine each next group of a packer.
use Rattle.capnp_pack.proofs.packing.WordsPackUniquelyAndUnpackLemmas.{Packs-once}
use Rattle.capnp_pack.proofs.laws.packed_encoding_is_unique.Goals as goal

pub returns : goal.returns
returns c = Packs-once
