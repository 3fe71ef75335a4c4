-- The message at the front is the one that is found.
use Rattle.std.proofs.Common.{rules, ◌*◌, ◌∙◌, length, refl, sym, ap}
use Rattle.std.specs.Prelude.{sum}
use Rattle.capnp_frame.proofs.slices.SliceOutcomeAfterTableReadLemmas.{moved_past_table, parts_are, keeps_declared}
use Rattle.capnp_frame.proofs.slices.FlatReaderOutcomeLemmas.{reads_none, reads_found}
use Rattle.capnp_frame.proofs.serialize.buffer_segments.take_segments_with_rules.Goals as goal

pub returns-in_err-segment_indices : goal.returns-in_err-segment_indices
returns-in_err-segment_indices c = record {
  buffer = search rules;
  reads = reads_none _ _ _ _ _ _ c.from_residual.ensures.1 refl c.in_err-segment_indices.ensures.errors;
}

pub returns : goal.returns
returns c =
    let bytes = c.args.slice.now.now in
    let ns = c.in_ok-segment_indices.segment_indices in
    let size = c.in_ok-segment_indices.table_len in
    let found = c.in_ok-segment_indices.ensures in
    record {
      buffer = search rules;
      reads = reads_found _ _ _ _ _ (length ns) found.holds
          (parts_are bytes ns size c.from_parts.result.segments found.lengths found.table (ap (λ message. message.segments) c.from_parts.ensures))
          (keeps_declared bytes ns c.args.rules.limit_in_words found.lengths found.within) found.padding
          (moved_past_table bytes (length ns) size (8 * c.total_words.result) found.table (ap (λ k. 8 * k) (c.total_words.ensures ∙ ap sum (sym found.lengths))));
    }
