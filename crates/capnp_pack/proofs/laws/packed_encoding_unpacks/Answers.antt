-- A packed encoding is a chunk, and a request has at most one result.
use Rattle.capnp_pack.proofs.packing.WordsPackUniquelyAndUnpackLemmas.{Packs-unpacks, Packs-unpacks-alone}
use Rattle.capnp_pack.proofs.laws.packed_encoding_unpacks.Goals as goal

pub returns-clause-alone : goal.returns-clause-alone
returns-clause-alone c = Packs-unpacks-alone

pub returns-clause-given : goal.returns-clause-given
returns-clause-given c = Packs-unpacks
