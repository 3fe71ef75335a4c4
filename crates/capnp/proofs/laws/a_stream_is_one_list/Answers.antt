-- Both formats part streams in one way.
use Rattle.capnp.proofs.StreamEndByRunResultLemmas.{stream_once}
use Rattle.capnp.proofs.laws.a_stream_is_one_list.Goals as goal

pub returns : goal.returns
returns c = stream_once
