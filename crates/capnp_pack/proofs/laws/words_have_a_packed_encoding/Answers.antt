-- A packer's groups are made from the front.
use Rattle.capnp_pack.proofs.packing.WordsPackUniquelyAndUnpackLemmas.{Packs-some}
use Rattle.capnp_pack.proofs.laws.words_have_a_packed_encoding.Goals as goal

pub returns : goal.returns
returns c = Packs-some
