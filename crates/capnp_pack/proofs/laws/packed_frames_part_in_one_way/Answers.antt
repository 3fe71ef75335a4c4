-- What the requests take is given in only one way.
use Rattle.capnp_pack.proofs.encodings.FoundPackedEncodingLemmas.{packed_frames_part}
use Rattle.capnp_pack.proofs.laws.packed_frames_part_in_one_way.Goals as goal

pub returns : goal.returns
returns c = packed_frames_part
