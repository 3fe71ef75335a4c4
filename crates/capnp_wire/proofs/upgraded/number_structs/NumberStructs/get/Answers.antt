-- A number is the one data word of its struct: its part of the word that it is in.
use Rattle.std.proofs.lemmas.List.{length-map}
use Rattle.std.proofs.Common.{◌≡◌, ◌^◌, ◌<◌, ℕ, List, [], ◌∷◌, Some, length, slice_index_or, refl, ap, ◌∙◌, arith}
use Rattle.capnp_layout.specs.Prelude.{number_of, words_of, words_from, code_of, width, words_for, message_of, elements}
use Rattle.capnp_wire.specs.Prelude.{own_part, own_data, limit_of, number_struct, Struct}
use Rattle.capnp_wire.specs.declared.any_struct.part.WordPart.{WordPart}
use Rattle.capnp_layout.proofs.words.DigitsToNumberAndBackLemmas.{length-digits}
use Rattle.capnp_layout.proofs.words.WordsOfBytesLemmas.{length-words_of}
use Rattle.capnp_wire.proofs.objects.NumberElementReadLemmas.{element_read}
use Rattle.capnp_layout.proofs.objects.NumberAsOneWordStructLemmas.{one_from, element_fits}
use Rattle.capnp_wire.proofs.views.UpgradedListReadAsStructsLemmas.{number_struct_at}
use Rattle.capnp_wire.proofs.upgraded.number_structs.NumberStructs.get.Goals as goal

pub invariant_of-result : goal.invariant_of-result
invariant_of-result g c =
    let self = c.args.self.now in
    let code = code_of self.size in
    let values = elements (words_of self.bytes.now) 0 code self.count in
    let within : c.args.index < self.count =
    omega (arith, c.requires, length-map values (number_struct code), length-digits (2 ^ width code) self.count (number_of (2 ^ 64) (words_from (words_of self.bytes.now) 0 (words_for self.count (width code))))) in
    let fits = element_fits self.size self.count c.args.index self.some within in
    record { room = omega (arith, fits, self.whole, c.word_of.ensures); content = λ (none : 0 < 0). absurd (omega (arith, none)); own = λ some. (refl, refl) }

pub returns : goal.returns
returns g c =
    let self = c.args.self.now in
    let code = code_of self.size in
    let words = words_of self.bytes.now in
    let i = c.args.index in
    let q = c.word_of.result in
    let values = elements words 0 code self.count in
    let within : i < self.count =
    omega (arith, c.requires, length-map values (number_struct code), length-digits (2 ^ width code) self.count (number_of (2 ^ 64) (words_from words 0 (words_for self.count (width code))))) in
    let inside : q < length words = omega (arith, element_fits self.size self.count i self.some within, self.whole, c.word_of.ensures, length-words_of self.bytes.now) in
    let part : WordPart = record { size = self.size; index = i } in
    let value = own_part (Some part) (slice_index_or words q 0) in
    let value_is : value ≡ slice_index_or values i 0 =
    element_read self.bytes.now self.size self.count i (slice_index_or words q 0) value c.words_fit.ensures.words self.whole within (ap (λ (k : ℕ). slice_index_or words k 0) c.word_of.ensures) refl in
    let fields : List ℕ → Struct = λ element. record {
      message = message_of (g.S.ReaderSegments.segments self.segments.now);
      words = element;
      children = [];
      nesting = self.nesting;
      limit = limit_of self.limiter;
    } in
    ap (λ (there : List ℕ). fields (own_data (Some part) there)) (one_from words q inside)
    ∙ ap (λ (v : ℕ). fields (v ∷ [])) value_is
    ∙ ap fields (number_struct_at code i values self.some c.requires)
