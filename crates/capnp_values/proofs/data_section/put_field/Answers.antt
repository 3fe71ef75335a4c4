-- A field lies within one word.
use Rattle.std.proofs.Common.{◌≡◌, ◌*◌, ◌/◌, ◌%◌, ◌^◌, ◌<◌, ℕ, slice_set, subst, ap, sym, ◌∙◌, arith}
use Rattle.capnp_values.specs.DataSections.{with_field}
use Rattle.capnp_values.proofs.numbers.DataFieldSetLemmas.{set_in_word, set_nothing}
use Rattle.capnp_values.proofs.data_section.put_field.Goals as goal

pub returns-then-width-gt0 : goal.returns-then-width-gt0
returns-then-width-gt0 c =
    let words = c.args.words.now in
    let start : ℕ = c.args.width * c.args.offset in
    ap (slice_set words (start / 64)) c.put_bits.ensures
    ∙ set_in_word words c.args.width c.args.offset (start / 64) (start % 64) c.args.bits c.words_fit.ensures
    (omega arith) (omega arith) c.requires.one_word c.requires.few

pub returns-else-width-gt0 : goal.returns-else-width-gt0
returns-else-width-gt0 c =
    let words = c.args.words.now in
    let none : 0 ≡ c.args.width = omega arith in
    let few : c.args.bits < 2 ^ 0 = subst (λ (k : ℕ). c.args.bits < 2 ^ k) (sym none) c.requires.few in
    set_nothing words c.args.offset c.args.bits c.words_fit.ensures few
    ∙ ap (λ (k : ℕ). with_field words k c.args.offset c.args.bits) none
