-- The message at the front is the one in the buffer.
use Rattle.std.proofs.Common.{refl, ap}
use Rattle.capnp_frame.proofs.slices.SliceOutcomeAfterTableReadLemmas.{moved_past_table}
use Rattle.capnp_frame.proofs.slices.FlatReaderOutcomeLemmas.{reads_none, reads_found}
use Rattle.capnp_frame.proofs.serialize.no_alloc_buffer_segments.NoAllocBufferSegments+ref+slice+u8.from_slice_with_rules.Goals as goal

pub returns-in_err-info : goal.returns-in_err-info
returns-in_err-info c = reads_none _ _ _ _ _ _ c.from_residual.ensures.1 refl c.in_err-info.ensures.errors

pub returns : goal.returns
returns c =
    let reported = c.in_ok-info.ensures in
    let info = c.in_ok-info.info in
    reads_found _ _ _ _ _ info.segments_count reported.holds (ap (λ message. message.segments) c.of_message.ensures) reported.within reported.padding
    (moved_past_table c.args.slice.now.now info.segments_count info.segment_table_length_bytes info.total_segments_length_bytes reported.table reported.total)
