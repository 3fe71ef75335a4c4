-- The chunks are the table's first word, its other words where there are any, and the segments.
use Rattle.capnp_pack.proofs.encodings.PlainSinkEncodingLemmas.{packed_chunks_are_encoding}
use Rattle.capnp_pack.proofs.laws.plain_sink_gets_the_packed_message.Goals as goal

pub returns : goal.returns
returns c = packed_chunks_are_encoding
