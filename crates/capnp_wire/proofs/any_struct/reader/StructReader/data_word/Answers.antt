-- A data word is the struct's own part of the segment's word, and 0 past the last one.
use Rattle.std.proofs.Common.{◌≡◌, slice_index_or, sym, ◌∙◌, ap, arith}
use Rattle.capnp_layout.specs.Prelude.{words_of, words_from}
use Rattle.capnp_wire.specs.Prelude.{own_part}
use Rattle.capnp_layout.proofs.objects.SectionWordByIndexLemmas.{word_within, no_word_past}
use Rattle.capnp_wire.proofs.objects.NumberAsStructLemmas.{own_data_at}
use Rattle.capnp_wire.proofs.any_struct.reader.StructReader.data_word.Goals as goal
use Rattle.capnp_wire.proofs.any_struct.reader.StructReader.data_word.Goals.{then-index-self, else-index-self}

pub returns : goal.returns
returns g c =
    let self = c.args.self.now in
    let words = words_of self.segment.now in
    let start = self.start.word in
    let count = self.size.data_words in
    let index = c.args.index in
    let word_is : c.if-index-self.word ≡ slice_index_or (words_from words start count) index 0 = elim c.if-index-self.branch [
      | then-index-self w ↦ w.word-is ∙ word_within words start count index w.word_at-word.result (omega arith) w.word_at-word.ensures
      | else-index-self w ↦ w.word-is ∙ no_word_past words start count index (omega arith)
    ] in
    c.data_word_of.ensures ∙ ap (own_part self.part) word_is ∙ sym (own_data_at self.part (words_from words start count) index)
