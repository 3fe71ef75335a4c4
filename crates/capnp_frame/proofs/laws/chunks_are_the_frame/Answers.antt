-- The chunks of a message, joined, are its frame.
use Rattle.std.proofs.Common.{length, ◌∙◌, ap}
use Rattle.capnp_frame.proofs.encodings.WrittenFrameSizeAndChunksLemmas.{concat-chunks, length-frame_bytes}
use Rattle.capnp_frame.proofs.laws.chunks_are_the_frame.Goals as goal

pub returns-clause-joined : goal.returns-clause-joined
returns-clause-joined c = concat-chunks

pub returns-clause-size : goal.returns-clause-size
returns-clause-size c = λ segments writable. ap length (concat-chunks segments) ∙ length-frame_bytes segments writable
