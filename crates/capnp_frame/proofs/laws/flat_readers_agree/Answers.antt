-- Where one reader of bytes fails, another fails too, with a kind of its own.
use Rattle.capnp_frame.proofs.slices.SliceReadersRejectSameBytesLemmas.{flat_agree, one_at_a_front}
use Rattle.capnp_frame.proofs.laws.flat_readers_agree.Goals as goal

pub returns-clause-errors : goal.returns-clause-errors
returns-clause-errors c = flat_agree

pub returns-clause-found : goal.returns-clause-found
returns-clause-found c = one_at_a_front
