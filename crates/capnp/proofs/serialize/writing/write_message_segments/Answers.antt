-- The engine's chunks, joined.
use Rattle.capnp.proofs.MessageWriteLemmas.{frame_written}
use Rattle.capnp.proofs.serialize.writing.write_message_segments.Goals as goal

pub returns : goal.returns
returns g c = frame_written g.W.Write _ _ _ _ c.write_segments.ensures
