-- A request that isn't whole words fails before anything is read.
use Rattle.std.proofs.Common.{inr, ◌≡◌}
use Rattle.capnp_pack.specs.Prelude.{not_plain}
use Rattle.capnp_frame.proofs.sources.JoinedRequestPartsLemmas.{IfErr-vacuous}
use Rattle.capnp_pack.proofs.errors.ChunkRequestErrorLemmas.{part_word_error}
use Rattle.capnp_frame.specs.declared.error.Error.{Error}
use Rattle.capnp_frame.specs.declared.error.ErrorKind.TheVariants.{DeviceFailed}
use Rattle.capnp_pack.proofs.packed_read.PackedReadRead.read.Goals as goal

pub returns-then-buffer-ne0-clause-errors : goal.returns-then-buffer-ne0-clause-errors
returns-then-buffer-ne0-clause-errors g c = inr (part_word_error _ _ _ c.if-buffer-ne0.true c.from_kind.ensures)

pub returns-then-buffer-ne0-clause-plain : goal.returns-then-buffer-ne0-clause-plain
returns-then-buffer-ne0-clause-plain g c = λ plain. absurd (not_plain plain)

pub returns-clause-plain : goal.returns-clause-plain
returns-clause-plain g c = IfErr-vacuous (λ (error : Error). error.kind ≡ DeviceFailed) _ not_plain
