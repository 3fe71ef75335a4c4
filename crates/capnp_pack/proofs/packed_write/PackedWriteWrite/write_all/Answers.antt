-- Whole words fail only where the sink fails.
use Rattle.std.proofs.Common.{◌≡◌}
use Rattle.capnp_frame.specs.declared.error.ErrorKind.TheVariants.{DeviceFailed}
use Rattle.capnp_pack.proofs.packing.WordsPackUniquelyAndUnpackLemmas.{Packs-whole}
use Rattle.capnp_pack.proofs.packing.HandedAndBufferedBytesJoinLemmas.{whole_chunk_error}
use Rattle.capnp_pack.proofs.packed_write.PackedWriteWrite.write_all.Goals as goal

pub returns-clause-errors : goal.returns-clause-errors
returns-clause-errors g c = whole_chunk_error (λ kind. kind ≡ DeviceFailed) g.W.Write.refuses _ c.pack.result c.if-chunk-ne0.false c.pack.ensures.writes.errors

-- and what is packed is whole words
pub returns-then-chunk-ne0-clause-packed_granted : goal.returns-then-chunk-ne0-clause-packed_granted
returns-then-chunk-ne0-clause-packed_granted g c encoding more packs granted = absurd (c.if-chunk-ne0.true (Packs-whole _ encoding packs))
