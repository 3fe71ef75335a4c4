-- A read that returns all of a chunk gives it.
use Rattle.capnp_frame.proofs.sources.JoinedRequestPartsLemmas.{ReturnsPart-filled}
use Rattle.capnp_pack.specs.Prelude.{Unpacks, ChunkError, takes_no_group}
use Rattle.capnp_pack.proofs.packed_read.PackedReadRead.read_exact.Goals as goal

pub returns-clause-given : goal.returns-clause-given
returns-clause-given g c = ReturnsPart-filled Unpacks ChunkError c.in_ok-count.count c.read.new.buffer _ _ takes_no_group c.if-count-buffer.false c.in_ok-count.ensures.taken
