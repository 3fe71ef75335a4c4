-- No group's encoding is the start of another's.
use Rattle.capnp_pack.specs.Prelude.{unpack_once}
use Rattle.capnp_pack.proofs.laws.packed_request_has_one_result.Goals as goal

pub returns : goal.returns
returns c = λ raw bytes rest others left n given also. unpack_once raw n bytes rest others left given also
