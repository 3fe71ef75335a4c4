-- Asking a slice for the three chunks of a frame takes that frame.
use Rattle.capnp_frame.proofs.encodings.PlainRequestsTakeFrameLemmas.{plain_requests}
use Rattle.capnp_frame.proofs.laws.plain_requests_take_a_frame.Goals as goal

pub returns : goal.returns
returns c = plain_requests
