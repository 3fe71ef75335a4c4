-- The parts that a plain sink gets are the packed encoding, joined.
use Rattle.capnp_pack.proofs.encodings.PlainSinkEncodingLemmas.{packed_over_plain}
use Rattle.capnp_pack.proofs.laws.plain_sink_gets_the_packed_encoding.Goals as goal

pub returns : goal.returns
returns c = packed_over_plain
