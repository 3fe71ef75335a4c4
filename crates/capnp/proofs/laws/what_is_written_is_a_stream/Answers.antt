-- The encodings that are written part as they were written.
use Rattle.capnp.proofs.MessageSequenceReadBackLemmas.{appended_stream}
use Rattle.capnp.proofs.laws.what_is_written_is_a_stream.Goals as goal

pub returns : goal.returns
returns c = appended_stream
