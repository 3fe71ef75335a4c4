-- The message at the front is the one that is found.
use Rattle.std.proofs.Common.{rules, length, ap}
use Rattle.capnp_frame.proofs.slices.SliceOutcomeAfterTableReadLemmas.{parts_are, keeps_declared}
use Rattle.capnp_frame.proofs.slices.FlatReaderOutcomeLemmas.{reads_none, reads_found}
use Rattle.capnp_frame.proofs.serialize.buffer_segments.BufferSegments.with_rules.Goals as goal

pub returns-in_err-segment_indices : goal.returns-in_err-segment_indices
returns-in_err-segment_indices g c =
    let errors = rw c.as_bytes.ensures at c.in_err-segment_indices.ensures.errors in
    record { buffer = search rules; reads = reads_none _ _ _ _ _ _ c.from_residual.ensures.1 tt errors }

pub returns : goal.returns
returns g c =
    let bytes = g.T.AsBytes.bytes c.args.buffer in
    let ns = c.in_ok-segment_indices.segment_indices in
    let holds = rw c.as_bytes.ensures at c.in_ok-segment_indices.ensures.holds in
    let declared = rw c.as_bytes.ensures at c.in_ok-segment_indices.ensures.lengths in
    let kept = rw c.as_bytes.ensures at c.in_ok-segment_indices.ensures.padding in
    record {
      buffer = search rules;
      reads = reads_found _ _ _ _ _ (length ns) holds
          (parts_are bytes ns c.in_ok-segment_indices.table_len c.from_parts.result.segments
          declared c.in_ok-segment_indices.ensures.table (ap (λ message. message.segments) c.from_parts.ensures))
          (keeps_declared bytes ns c.args.rules.limit_in_words declared c.in_ok-segment_indices.ensures.within) kept tt;
    }
