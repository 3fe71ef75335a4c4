-- The segments are those that are found.
use Rattle.std.proofs.Common.{ap}
use Rattle.std.proofs.lemmas.Result.{err_from_is_err_and}
use Rattle.capnp_frame.proofs.slices.FlatReaderOutcomeLemmas.{reads_shown, reads_passed}
use Rattle.capnp.proofs.serialize.flat.take_message_no_alloc.Goals as goal

pub returns-in_err-segments : goal.returns-in_err-segments
returns-in_err-segments c =
    let p = err_from_is_err_and c.from_residual.result c.from_residual.ensures.1 in
    record { reads = reads_passed _ _ _ _ _ _ _ c.from_residual.ensures.1 (rw c.new-rules.ensures at c.in_err-segments.ensures); options_are = rw p.1 tt }

pub returns : goal.returns
returns c = record {
  reads = reads_shown _ _ _ _ _ _ _ (ap (λ reader. reader.segments.segments) c.new.ensures) (rw c.new-rules.ensures at c.in_ok-segments.ensures);
  options_are = ap (λ reader. reader.options) c.new.ensures;
}
