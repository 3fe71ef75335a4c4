-- The words of a list of numbers are its copy.
use Rattle.std.proofs.Common.{ℕ, ◌-◌, ◌∙◌, ap, sym, arith}
use Rattle.capnp_layout.specs.Prelude.{words_of, code_of, width, words_for, elements, list_pointer}
use Rattle.capnp_wire.proofs.layouts.NullAndNumbersWrittenLemmas.{numbers_copied}
use Rattle.capnp_wire.proofs.views.NumberListMeasureLemmas.{numbers_long}
use Rattle.capnp_wire.proofs.layout.value.write_numbers.Goals as goal

pub returns-clause-written : goal.returns-clause-written
returns-clause-written c =
    let list = c.args.list.now in
    let code : ℕ = code_of list.size in
    let words = words_of list.segment.now in
    let gap : ℕ = c.args.next - c.args.following in
    let long = numbers_long words list.start.word code list.count in
    numbers_copied code (elements words list.start.word code list.count) gap c.args.next _ _ _ c.put_elements.ensures.words
    (c.list_word.ensures ∙ ap (λ (k : ℕ). list_pointer gap k list.count) c.code.ensures.code ∙ ap (λ (k : ℕ). list_pointer gap code k) (sym long))
    (omega (arith, c.words.ensures, ap (λ (k : ℕ). words_for k (width code)) long))
