-- A segment is at an index just where the index is below the number of segments.
use Rattle.capnp_frame.proofs.slices.SliceReadersRejectSameBytesLemmas.{index_below}
use Rattle.capnp_frame.proofs.laws.indexes_are_below_the_length.Goals as goal

pub returns : goal.returns
returns c = index_below
