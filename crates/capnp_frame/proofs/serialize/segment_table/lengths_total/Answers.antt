-- Each turn adds the length in the next field.
use Rattle.std.proofs.Common.{arith, refl, sym, ap, ◌+◌, ◌∙◌}
use Rattle.capnp_frame.proofs.tables.TableDeclaredByFieldsLemmas.{tells_more}
use Rattle.capnp_frame.proofs.serialize.segment_table.lengths_total.Goals as goal

pub loop-index-init : goal.loop-index-init
loop-index-init c = record { total = refl; bound = omega arith; lengths = record { each = tt; spelled = refl } }

pub loop-index-preserved : goal.loop-index-preserved
loop-index-preserved c =
    let more = tells_more c.args.table.now c.loop-index.index c.field_at.result c.field_at.type_inv c.field_at.ensures c.loop-index.invariant.lengths in
    record { total = ap (λ k. k + c.field_at.result) c.loop-index.invariant.total ∙ sym more.total; bound = omega arith; lengths = more.lengths }
