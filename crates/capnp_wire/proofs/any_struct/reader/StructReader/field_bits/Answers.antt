-- A field is some of the bits of the data word that it is in.
use Rattle.std.proofs.Common.{◌*◌, ◌/◌, ◌%◌, ◌^◌, ℕ, slice_index_or, sym, ap, ◌∙◌, arith}
use Rattle.capnp_layout.specs.Prelude.{code_of, width, words_of, words_from}
use Rattle.capnp_wire.specs.Prelude.{own_data}
use Rattle.capnp_layout.proofs.trees.ReadTreeSizesAndWordsBoundedLemmas.{words_from_below}
use Rattle.capnp_layout.proofs.objects.NumberElementsInListWordsLemmas.{within_word}
use Rattle.capnp_wire.proofs.objects.NumberAsStructLemmas.{own_data_below}
use Rattle.capnp_wire.proofs.words.FieldAndElementAreBitsLemmas.{field_in_word}
use Rattle.capnp_wire.proofs.any_struct.reader.StructReader.field_bits.Goals as goal

pub returns-clause-bits : goal.returns-clause-bits
returns-clause-bits g c =
    let self = c.args.self.now in
    let there = words_from (words_of self.segment.now) self.start.word self.size.data_words in
    let words = own_data self.part there in
    let w = width (code_of c.args.size) in
    let i = c.args.offset in
    let small = own_data_below self.part there (words_from_below (words_of self.segment.now) self.start.word self.size.data_words c.words_fit.ensures.words) in
    c.in_word.ensures
    ∙ ap (λ (k : ℕ). k / 2 ^ (w * i % 64) % 2 ^ w) (c.data_word.ensures ∙ ap (λ (q : ℕ). slice_index_or words q 0) c.word_of.ensures)
    ∙ sym (field_in_word words w i (w * i / 64) (w * i % 64) small (omega arith) (within_word c.args.size i))
