-- A count of 0 has not risen.
use Rattle.capnp_frame.proofs.sources.JoinedCallsAdvanceSourceLemmas.{never_fails}
use Rattle.capnp_frame.proofs.laws.slices_never_fail.Goals as goal

pub returns : goal.returns
returns c = never_fails
