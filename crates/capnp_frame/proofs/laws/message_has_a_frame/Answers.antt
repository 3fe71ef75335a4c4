-- What is written of a message is a framed encoding of it.
use Rattle.capnp_frame.proofs.encodings.PlainRequestsTakeFrameLemmas.{frame_bytes_are}
use Rattle.capnp_frame.proofs.laws.message_has_a_frame.Goals as goal

pub returns : goal.returns
returns c = frame_bytes_are
