-- An element is some of the bits of the word that it is in.
use Rattle.std.proofs.Common.{◌^◌, ◌<◌, ℕ, Option, slice_index_or, ap, ◌∙◌, arith}
use Rattle.std.proofs.lemmas.Option.{unwrap_or-slice_get}
use Rattle.std.specs.Option.{unwrap_or}
use Rattle.capnp_layout.specs.Prelude.{number_of, words_of, words_from, code_of, width, words_for}
use Rattle.capnp_layout.proofs.words.DigitsToNumberAndBackLemmas.{length-digits}
use Rattle.capnp_wire.proofs.objects.NumberElementReadLemmas.{element_read}
use Rattle.capnp_wire.proofs.any_object.numbers.Numbers.get.Goals as goal

pub returns : goal.returns
returns c =
    let self = c.args.self.now in
    let words = words_of self.bytes.now in
    let bits = width (code_of self.size) in
    let within : c.args.index < self.count = omega (
      arith,
      c.requires,
      length-digits (2 ^ bits) self.count (number_of (2 ^ 64) (words_from words 0 (words_for self.count bits))),
    ) in
    let word_is = c.unwrap_or-word.ensures ∙ ap (λ (o : Option ℕ). unwrap_or o 0) c.word.ensures.value ∙ unwrap_or-slice_get words c.word_of.result 0 ∙ ap (λ (q : ℕ). slice_index_or words q 0) c.word_of.ensures in
    element_read self.bytes.now self.size self.count c.args.index c.unwrap_or-word.result c.in_word.result c.words_fit.ensures.words self.whole within word_is c.in_word.ensures
