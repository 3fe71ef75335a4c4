-- Bytes that begin with such an encoding are unpacked, and any others fail by their line.
use Rattle.std.proofs.Common.{ap, ◌∙◌}
use Rattle.capnp_frame.specs.Prelude.{kind_number}
use Rattle.capnp_pack.specs.Prelude.{unpacking}
use Rattle.capnp_c.proofs.PackWordsIntoBufferLemmas.{slice_chunk_error}
use Rattle.capnp_c.proofs.packed.linsjoar_unpack.Goals as goal

pub returns-in-Ok-clause-errors : goal.returns-in-Ok-clause-errors
returns-in-Ok-clause-errors c kind errors = absurd (unpacking.apart _ _ _ _ kind c.in-Ok.ensures.given errors)

pub returns-in-Err-clause-accepted : goal.returns-in-Err-clause-accepted
returns-in-Err-clause-accepted c bytes rest given =
    absurd (unpacking.apart _ _ bytes rest _ given (slice_chunk_error _ _ c.in-Err.error.kind c.in-Err.ensures.errors c.in-Err.ensures.failed))

pub returns-in-Err-clause-errors : goal.returns-in-Err-clause-errors
returns-in-Err-clause-errors c kind errors =
    c.number.ensures ∙ ap kind_number (unpacking.one_kind _ _ c.in-Err.error.kind kind (slice_chunk_error _ _ c.in-Err.error.kind c.in-Err.ensures.errors c.in-Err.ensures.failed) errors)
