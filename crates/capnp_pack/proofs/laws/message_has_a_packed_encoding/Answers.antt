-- Its table and its segments are whole words, which have packed encodings.
use Rattle.capnp_pack.proofs.encodings.FoundMessageIsPackedFrameLemmas.{packed_encoding_some}
use Rattle.capnp_pack.proofs.laws.message_has_a_packed_encoding.Goals as goal

pub returns : goal.returns
returns c = packed_encoding_some
