-- A packer's groups are groups, and the table with zero padding is a table.
use Rattle.capnp_pack.proofs.encodings.FoundMessageIsPackedFrameLemmas.{packed_encoding_is}
use Rattle.capnp_pack.proofs.laws.packed_encoding_is_a_packed_frame.Goals as goal

pub returns : goal.returns
returns c = packed_encoding_is
