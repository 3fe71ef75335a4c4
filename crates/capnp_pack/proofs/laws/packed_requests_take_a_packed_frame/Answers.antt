-- The three chunks of a packed encoding are the three requests.
use Rattle.capnp_pack.proofs.encodings.FoundMessageIsPackedFrameLemmas.{packed_requests}
use Rattle.capnp_pack.proofs.laws.packed_requests_take_a_packed_frame.Goals as goal

pub returns : goal.returns
returns c = packed_requests
