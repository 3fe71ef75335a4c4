-- A sink that adds each chunk itself gets the chunks joined.
use Rattle.capnp_frame.proofs.encodings.UniqueDivisionIntoEncodingsLemmas.{chunks_joined}
use Rattle.capnp_frame.proofs.laws.plain_chunks_are_joined.Goals as goal

pub returns : goal.returns
returns c = chunks_joined
