-- The message at the front is the one in the buffer.
use Rattle.std.proofs.Common.{rules, ap}
use Rattle.capnp_frame.proofs.slices.FlatReaderOutcomeLemmas.{reads_none, reads_found}
use Rattle.capnp_frame.proofs.serialize.no_alloc_buffer_segments.NoAllocBufferSegments.from_buffer_with_rules.Goals as goal

pub returns-in_err-info : goal.returns-in_err-info
returns-in_err-info g c =
    let errors = rw c.as_bytes.ensures at c.in_err-info.ensures.errors in
    record { buffer = search rules; reads = reads_none _ _ _ _ _ _ c.from_residual.ensures.1 tt errors }

pub returns : goal.returns
returns g c =
    let holds = rw c.as_bytes.ensures at c.in_ok-info.ensures.holds in
    let kept = rw c.as_bytes.ensures at c.in_ok-info.ensures.padding in
    let keeps = rw c.as_bytes.ensures at c.in_ok-info.ensures.within in
    record {
      buffer = search rules;
      reads = reads_found _ _ _ _ _ c.in_ok-info.info.segments_count holds (ap (λ message. message.segments) c.of_message.ensures) keeps kept tt;
    }
