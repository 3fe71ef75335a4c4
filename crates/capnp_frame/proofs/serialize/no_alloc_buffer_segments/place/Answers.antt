-- The segment's own length comes last.
use Rattle.std.proofs.Common.{◌+◌, ◌∙◌, sym, ap, arith}
use Rattle.capnp_frame.proofs.tables.SegmentRangeLemmas.{reads_on}
use Rattle.capnp_frame.proofs.serialize.no_alloc_buffer_segments.place.Goals as goal

pub overflow_add-result : goal.overflow_add-result
overflow_add-result c =
    let message = c.requires.message in
    let next = reads_on c.args.bytes.now message.0 c.args.index c.field_at.result message.1 message.2 c.field_at.type_inv c.field_at.ensures in
    omega (arith, c.later_start-start.ensures, next.total, next.within)

pub returns-clause-end : goal.returns-clause-end
returns-clause-end c =
    let message = c.requires.message in
    let next = reads_on c.args.bytes.now message.0 c.args.index c.field_at.result message.1 message.2 c.field_at.type_inv c.field_at.ensures in
    ap (λ k. k + c.field_at.result) c.later_start-start.ensures ∙ sym next.total
