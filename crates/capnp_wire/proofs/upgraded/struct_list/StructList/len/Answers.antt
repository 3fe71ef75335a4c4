-- A list of numbers has as many structs as numbers.
use Rattle.std.proofs.lemmas.List.{length-map}
use Rattle.std.proofs.Common.{◌^◌, length, sym, ap, ◌∙◌}
use Rattle.capnp_layout.specs.Prelude.{number_of, words_of, words_from, code_of, width, words_for, elements}
use Rattle.capnp_wire.specs.Prelude.{number_struct, struct_elements_of}
use Rattle.capnp_layout.proofs.words.DigitsToNumberAndBackLemmas.{length-digits}
use Rattle.capnp_wire.proofs.upgraded.struct_list.StructList.len.Goals as goal

pub returns-in-Numbers : goal.returns-in-Numbers
returns-in-Numbers g c =
    let numbers = c.in-Numbers.numbers in
    let code = code_of numbers.size in
    let words = words_of numbers.bytes.now in
    sym (length-map (elements words 0 code numbers.count) (number_struct code) ∙ length-digits (2 ^ width code) numbers.count (number_of (2 ^ 64) (words_from words 0 (words_for numbers.count (width code)))))
    ∙ ap (λ r. length (struct_elements_of g.S.ReaderSegments.segments r).elements) (sym c.in-Numbers.is)
