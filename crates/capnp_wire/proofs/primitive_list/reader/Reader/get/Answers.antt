-- An element is some of the bits of the word that it is in.
use Rattle.std.proofs.Common.{◌≡◌, ◌*◌, ◌^◌, ◌<◌, ℕ, Option, length, slice_index_or, sym, ap, ◌∙◌, subst, arith}
use Rattle.std.proofs.lemmas.Nat.{pow_pos}
use Rattle.std.proofs.lemmas.Option.{unwrap_or-slice_get}
use Rattle.std.specs.Option.{unwrap_or}
use Rattle.capnp_layout.specs.Prelude.{number_of, words_of, words_from, code_of, width, words_for, elements}
use Rattle.capnp_layout.proofs.words.DigitsToNumberAndBackLemmas.{length-digits}
use Rattle.capnp_wire.proofs.objects.NumberElementReadLemmas.{element_read}
use Rattle.capnp_wire.proofs.primitive_list.reader.Reader.get.Goals as goal

pub from_bits-requires : goal.from_bits-requires
from_bits-requires g c =
    let few : c.in_word.result < 2 ^ width (code_of c.size-size.result) = omega (arith, c.in_word.ensures, pow_pos (width (code_of c.size-size.result))) in
    subst (λ (code : ℕ). c.in_word.result < 2 ^ width code) c.size-size.ensures few

pub returns : goal.returns
returns g c =
    let self = c.args.self.now in
    let words = words_of self.bytes.now in
    let i = c.args.index in
    let size = c.size-size.result in
    let bits = width g.T.PrimitiveElement.code in
    let within : i < self.count = omega (
      arith,
      c.requires,
      length-digits (2 ^ bits) self.count (number_of (2 ^ 64) (words_from words 0 (words_for self.count bits))),
    ) in
    let whole = subst (λ (code : ℕ). length self.bytes.now ≡ 8 * words_for self.count (width code)) (sym c.size-size.ensures) self.whole in
    let word_is = c.unwrap_or-word.ensures ∙ ap (λ (o : Option ℕ). unwrap_or o 0) c.word.ensures.value ∙ unwrap_or-slice_get words c.word_of.result 0 ∙ ap (λ (q : ℕ). slice_index_or words q 0) c.word_of.ensures in
    let there = element_read self.bytes.now size self.count i c.unwrap_or-word.result c.in_word.result c.words_fit.ensures.words whole within word_is c.in_word.ensures in
    c.from_bits.ensures
    ∙ ap g.T.PrimitiveElement.value_of (subst (λ (code : ℕ). c.in_word.result ≡ slice_index_or (elements words 0 code self.count) i 0) c.size-size.ensures there)
