-- What is encoded is the used words.
use Rattle.std.proofs.Common.{◌≡◌, ◌⊎◌, subst}
use Rattle.std.proofs.lemmas.Result.{err_from_is_err_and}
use Rattle.capnp_frame.specs.declared.error.ErrorKind.TheVariants.{OutOfMemory}
use Rattle.capnp_frame.specs.Prelude.{IsWritable, IsWithinSegmentLimit, SegmentCountError}
use Rattle.capnp.specs.Prelude.{IsPackedEncodingOf}
use Rattle.capnp.proofs.MemoryWriteErrorLemmas.{packed_memory}
use Rattle.capnp_uses.proofs.PackedReadBackLemmas.{added_encoding}
use Rattle.capnp_uses.proofs.packed_struct.packed_encoding.Goals as goal

pub returns : goal.returns
returns g c =
    let output = c.get_segments_for_output-output in
    record {
      errors = tt;
      packed = (
        subst IsWritable output.ensures.segments (output.ensures.writable c.requires),
        subst IsWithinSegmentLimit output.ensures.segments c.in_ok-write_message_segments.ensures.count.few,
        subst (λ m. IsPackedEncodingOf m c.write_message_segments.new.sink.items) output.ensures.segments
            (added_encoding output.result c.new-encoding.result.items c.write_message_segments.new.sink.items c.new-encoding.ensures.items
            (c.in_ok-write_message_segments.ensures.encoding (λ chunk encoding same. same))),
      );
    }

pub returns-in_err-write_message_segments-clause-errors : goal.returns-in_err-write_message_segments-clause-errors
returns-in_err-write_message_segments-clause-errors g c =
    let p = err_from_is_err_and c.from_residual.result c.from_residual.ensures.1 in
    let output = c.get_segments_for_output-output in
    let error = c.in_err-write_message_segments.field-0.0 in
    let reported = c.in_err-write_message_segments.ensures in
    let errors = packed_memory output.result error.kind (output.ensures.writable c.requires) reported.errors reported.failed in
    rw (p.1, p.2) (subst (λ m. SegmentCountError m error.kind ⊎ (error.kind ≡ OutOfMemory)) output.ensures.segments errors)
