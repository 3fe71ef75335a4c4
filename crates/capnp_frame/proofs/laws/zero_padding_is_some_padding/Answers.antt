-- Zeros are some padding, and the table that is written has no other.
use Rattle.capnp_frame.proofs.encodings.PlainRequestsTakeFrameLemmas.{zero_table_is}
use Rattle.capnp_frame.proofs.encodings.MessageFoundByRequestsLemmas.{zero_message_is}
use Rattle.capnp_frame.proofs.laws.zero_padding_is_some_padding.Goals as goal

pub returns-clause-table : goal.returns-clause-table
returns-clause-table g c = zero_table_is

pub returns-clause-is_found : goal.returns-clause-is_found
returns-clause-is_found g c = zero_message_is g.R.Read.gives
