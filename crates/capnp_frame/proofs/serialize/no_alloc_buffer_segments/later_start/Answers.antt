-- Each turn adds the next length.
use Rattle.std.proofs.Common.{refl, ◌+◌, ◌∙◌, sym, ap, arith}
use Rattle.std.specs.Prelude.{sum}
use Rattle.capnp_frame.specs.Prelude.{declared_lengths, table_size}
use Rattle.capnp_frame.proofs.tables.SegmentRangeLemmas.{lies_between, reads_on}
use Rattle.capnp_frame.proofs.serialize.no_alloc_buffer_segments.later_start.Goals as goal

pub overflow_cast-start : goal.overflow_cast-start
overflow_cast-start c =
    let message = c.requires.message in
    let bytes = c.args.bytes.now in
    let lies = lies_between bytes message.0 7 (table_size message.0) (sum (declared_lengths 7 bytes)) (sum (declared_lengths 8 bytes)) message.1 (omega (arith, message.2, c.requires.later)) refl refl refl in
    omega (arith, lies.within, c.requires.end, c.if-bytes.true)

pub overflow_add-start : goal.overflow_add-start
overflow_add-start c =
    let message = c.requires.message in
    let next = reads_on c.args.bytes.now message.0 c.short.before c.field_at-start.result message.1 (omega (arith, message.2)) c.field_at-start.type_inv c.field_at-start.ensures in
    omega (arith, c.short.invariant, next.total, next.within, c.if-bytes.true)

pub short-preserved : goal.short-preserved
short-preserved c =
    let message = c.requires.message in
    let next = reads_on c.args.bytes.now message.0 c.short.before c.field_at-start.result message.1 (omega (arith, message.2)) c.field_at-start.type_inv c.field_at-start.ensures in
    ap (λ k. k + c.field_at-start.result) c.short.invariant ∙ sym next.total

pub overflow_add-start-in-long : goal.overflow_add-start-in-long
overflow_add-start-in-long c =
    let message = c.requires.message in
    let next = reads_on c.args.bytes.now message.0 c.long.before c.field_at.result message.1 (omega (arith, message.2)) c.field_at.type_inv c.field_at.ensures in
    omega (arith, c.long.invariant, next.total, next.within)

pub long-preserved : goal.long-preserved
long-preserved c =
    let message = c.requires.message in
    let next = reads_on c.args.bytes.now message.0 c.long.before c.field_at.result message.1 (omega (arith, message.2)) c.field_at.type_inv c.field_at.ensures in
    ap (λ k. k + c.field_at.result) c.long.invariant ∙ sym next.total
