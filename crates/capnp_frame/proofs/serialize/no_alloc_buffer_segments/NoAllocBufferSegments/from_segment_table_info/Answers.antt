-- What the table's numbers describe is in the buffer.
use Rattle.std.proofs.Common.{ap}
use Rattle.capnp_frame.specs.declared.serialize.segment_table.Padding.TheVariants.{Any}
use Rattle.capnp_frame.proofs.slices.SliceOutcomeAfterTableReadLemmas.{begins_from_holds}
use Rattle.capnp_frame.proofs.slices.UniqueTableInfoOfMessageLemmas.{holds_from_described}
use Rattle.capnp_frame.proofs.serialize.no_alloc_buffer_segments.NoAllocBufferSegments.from_segment_table_info.Goals as goal

pub of_message-requires : goal.of_message-requires
of_message-requires g c = holds_from_described (g.T.AsBytes.bytes c.args.buffer) c.args.info c.requires

pub returns-clause-found : goal.returns-clause-found
returns-clause-found g c =
    let bytes = g.T.AsBytes.bytes c.args.buffer in
    begins_from_holds Any bytes c.args.info.segments_count c.of_message.result.segments (holds_from_described bytes c.args.info c.requires) tt (ap (λ message. message.segments) c.of_message.ensures)
