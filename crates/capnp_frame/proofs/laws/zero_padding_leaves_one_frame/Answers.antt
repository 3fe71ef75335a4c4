-- Its table's padding is the zeros that are written.
use Rattle.capnp_frame.proofs.encodings.PlainRequestsTakeFrameLemmas.{zero_frame}
use Rattle.capnp_frame.proofs.laws.zero_padding_leaves_one_frame.Goals as goal

pub returns : goal.returns
returns c = zero_frame
