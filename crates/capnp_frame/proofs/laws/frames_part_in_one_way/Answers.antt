-- Bytes hold one message at their front, and one rest after it.
use Rattle.capnp_frame.proofs.encodings.UniqueDivisionIntoEncodingsLemmas.{frames_part}
use Rattle.capnp_frame.proofs.laws.frames_part_in_one_way.Goals as goal

pub returns : goal.returns
returns c = λ rule also. frames_part
