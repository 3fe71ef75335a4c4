-- A table of zero padding is the one that is written.
use Rattle.capnp_pack.proofs.encodings.FoundMessageIsPackedFrameLemmas.{zero_packed_table}
use Rattle.capnp_pack.proofs.laws.zero_padding_leaves_one_table.Goals as goal

pub returns : goal.returns
returns c = zero_packed_table
