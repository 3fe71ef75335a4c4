-- The padding is none, or a field.
use Rattle.std.proofs.Common.{◌≡◌, ◌%◌, arith}
use Rattle.capnp_frame.proofs.tables.AcceptedTablePaddingLemmas.{odd_padding, zero_field_kept, field_rejected}
use Rattle.capnp_frame.proofs.serialize.segment_table.check_zeros.Goals as goal

pub returns-then-count-eq1-clause-kept : goal.returns-then-count-eq1-clause-kept
returns-then-count-eq1-clause-kept c = odd_padding c.args.table.now c.args.count c.if-count-eq1.true c.requires.room

pub returns-then-field_at-ne0-clause-errors : goal.returns-then-field_at-ne0-clause-errors
returns-then-field_at-ne0-clause-errors c =
    let odd = c.if-count-eq1.false in
    let even : c.args.count % 2 ≡ 0 = omega arith in
    (field_rejected c.args.table.now c.args.count c.field_at.result even c.field_at.ensures c.field_at.type_inv c.if-field_at-ne0.true, c.from_kind.ensures)

pub returns-clause-kept : goal.returns-clause-kept
returns-clause-kept c =
    let odd = c.if-count-eq1.false in
    let even : c.args.count % 2 ≡ 0 = omega arith in
    let none = c.if-field_at-ne0.false in
    zero_field_kept c.args.table.now c.args.count c.field_at.result even c.field_at.ensures (omega arith)
