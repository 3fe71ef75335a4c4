-- The first field of a struct is the low bits of its first word.
use Rattle.std.proofs.lemmas.List.{length-map}
use Rattle.std.proofs.Common.{◌≡◌, ◌+◌, ◌*◌, ◌/◌, ◌%◌, ◌^◌, ◌<◌, ℕ, List, Option, length, slice_index_or, ap, ◌∙◌, subst, arith}
use Rattle.std.proofs.lemmas.Option.{unwrap_or-slice_get}
use Rattle.std.specs.Option.{unwrap_or}
use Rattle.capnp_layout.specs.Prelude.{words_of, width, elements_from}
use Rattle.capnp_wire.specs.Prelude.{first_fields}
use Rattle.capnp_layout.proofs.objects.StructElementPlaceLemmas.{element_within}
use Rattle.capnp_wire.proofs.views.UpgradedListReadAsNumbersLemmas.{first_field_read}
use Rattle.capnp_wire.proofs.upgraded.number_list.FirstFields.get.Goals as goal

pub overflow_mul-words_before : goal.overflow_mul-words_before
overflow_mul-words_before g c =
    let self = c.args.self.now in
    let words = words_of self.segment.now in
    let elements = elements_from words self.first self.size.data_words self.size.pointers self.count in
    let field : List ℕ → ℕ = λ element. slice_index_or element 0 0 % 2 ^ width g.T.PrimitiveElement.code in
    let fewer : c.args.index < length (first_fields g.T.PrimitiveElement.code elements) = c.requires in
    let within : c.args.index < length elements = omega (arith, fewer, length-map elements field) in
    let ends = element_within words self.first self.size.data_words self.size.pointers self.count c.args.index c.words.result within c.words.ensures in
    omega (arith, ends, self.room, c.words_fit.ensures.length)

pub returns : goal.returns
returns g c =
    let self = c.args.self.now in
    let words = words_of self.segment.now in
    let code = g.T.PrimitiveElement.code in
    let d = self.size.data_words in
    let q = self.size.pointers in
    let i = c.args.index in
    let word_is : c.unwrap_or-word.result ≡ slice_index_or words (self.first + i * c.words.result) 0 =
    c.unwrap_or-word.ensures ∙ ap (λ (o : Option ℕ). unwrap_or o 0) c.word.ensures.value ∙ unwrap_or-slice_get words (self.first + i * c.words.result) 0 in
    let value_is = subst (λ (code : ℕ). c.in_word.result ≡ c.unwrap_or-word.result / 2 ^ (width code * 0 % 64) % 2 ^ width code) c.size-size.ensures c.in_word.ensures in
    c.from_bits.ensures
    ∙ ap g.T.PrimitiveElement.value_of (first_field_read words self.first d q self.count i c.words.result code c.unwrap_or-word.result c.in_word.result c.requires c.words.ensures self.inside word_is value_is)
