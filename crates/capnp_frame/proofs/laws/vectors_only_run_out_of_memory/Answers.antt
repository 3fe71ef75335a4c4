-- A chunk fails for no other reason.
use Rattle.capnp_frame.proofs.encodings.WrittenFrameSizeAndChunksLemmas.{vector_memory_alone}
use Rattle.capnp_frame.proofs.laws.vectors_only_run_out_of_memory.Goals as goal

pub returns : goal.returns
returns c = λ kind segments failed errors. vector_memory_alone segments kind failed errors
