-- Each length is added.
use Rattle.std.proofs.Common.{◌≡◌, ◌+◌, ◌*◌, drop, ap, ◌∙◌, arith}
use Rattle.std.specs.Prelude.{sum}
use Rattle.capnp_frame.specs.Prelude.{numbers}
use Rattle.capnp_frame.proofs.tables.TableDeclaredByFieldsLemmas.{number-table_field}
use Rattle.capnp_c.proofs.in_place.SegmentsByGroupLemmas.{sum-lengths}
use Rattle.capnp_c.proofs.table.words_of_segments.Goals as goal

pub loop-before-init : goal.loop-before-init
loop-before-init c = (omega arith, omega arith)

pub overflow_add-words : goal.overflow_add-words
overflow_add-words c = omega (arith, c.loop-before.invariant.1, c.requires.few)

pub loop-before-preserved : goal.loop-before-preserved
loop-before-preserved c =
    let table = c.args.table.now in
    let first = c.args.first in
    let index = c.loop-before.before in
    let more = sum-lengths first index table in
    let is = number-table_field c.field_at.result (drop (4 * (first + index + 1)) table) (omega arith) c.field_at.ensures in
    (omega (arith, c.loop-before.invariant.0, more, is), omega (arith, c.loop-before.invariant.1))

pub returns-clause-words : goal.returns-clause-words
returns-clause-words c =
    let end : c.loop-before.before ≡ c.args.count = omega arith in
    c.loop-before.invariant.0 ∙ ap (λ k. sum (numbers k (drop (4 * (c.args.first + 1)) c.args.table.now))) end

pub returns-clause-bound : goal.returns-clause-bound
returns-clause-bound c = omega (arith, c.loop-before.invariant.1)
