-- The chunks are the frame, joined.
use Rattle.std.proofs.Common.{sym, ◌∙◌}
use Rattle.capnp_frame.specs.Prelude.{chunks}
use Rattle.capnp_frame.proofs.sinks.ChunkWritesUntilFailureLemmas.{left_is_front}
use Rattle.capnp_frame.proofs.encodings.WrittenFrameSizeAndChunksLemmas.{concat-chunks}
use Rattle.capnp_frame.proofs.laws.what_is_left_of_a_message_is_a_front.Goals as goal

pub returns : goal.returns
returns g c within segments encoding left = let (tail, e) = left_is_front g.W.Write.leaves within (chunks segments) encoding left in
    (tail, sym (concat-chunks segments) ∙ e)
