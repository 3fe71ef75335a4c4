-- The sizes are the ones that the table declares.
use Rattle.std.proofs.Common.{◌≡◌, ◌+◌, ◌*◌, sym, ap, ◌∙◌, arith}
use Rattle.std.specs.Prelude.{sum}
use Rattle.capnp_frame.specs.Prelude.{declared_lengths, table_size}
use Rattle.capnp_frame.proofs.tables.TableDeclaredByFieldsLemmas.{number-table_field}
use Rattle.capnp_c.specs.Sizes.{declared_count}
use Rattle.capnp_c.proofs.sizes.sizes_of.Goals as goal

pub words_of_segments-words-requires-clause-few : goal.words_of_segments-words-requires-clause-few
words_of_segments-words-requires-clause-few c =
    let few = c.in_ok-check_table.ensures.few in
    omega (arith, few, number-table_field c.field_at-last.result c.args.table.now (omega arith) c.field_at-last.ensures)

pub words_of_segments-words-requires-clause-room : goal.words_of_segments-words-requires-clause-room
words_of_segments-words-requires-clause-room c =
    let few = c.in_ok-check_table.ensures.few in
    omega (arith, few, c.requires, number-table_field c.field_at-last.result c.args.table.now (omega arith) c.field_at-last.ensures)

pub overflow_mul-size : goal.overflow_mul-size
overflow_mul-size c =
    let few = c.in_ok-check_table.ensures.few in
    omega (arith, few, c.words_of_segments-words.ensures.bound, number-table_field c.field_at-last.result c.args.table.now (omega arith) c.field_at-last.ensures)

pub overflow_add-size : goal.overflow_add-size
overflow_add-size c =
    let few = c.in_ok-check_table.ensures.few in
    omega (arith, few, c.words_of_segments-words.ensures.bound, c.table_len-start.ensures, number-table_field c.field_at-last.result c.args.table.now (omega arith) c.field_at-last.ensures)

pub returns : goal.returns
returns c =
    let table = c.args.table.now in
    let count : declared_count table ≡ c.field_at-last.result + 1 = ap (λ k. k + 1) (number-table_field c.field_at-last.result table (omega arith) c.field_at-last.ensures) in
    let start = c.table_len-start.ensures ∙ ap table_size (sym count) in
    let words = c.words_of_segments-words.ensures.words ∙ ap (λ k. sum (declared_lengths k table)) (sym count) in
    (c.in_ok-check_table.ensures, start, omega (arith, start, words))
