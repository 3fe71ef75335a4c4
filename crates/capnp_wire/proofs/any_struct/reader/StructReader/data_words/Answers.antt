-- A struct has as many data words as its size says.
use Rattle.std.proofs.Common.{sym, ◌∙◌, arith}
use Rattle.capnp_layout.specs.Prelude.{words_of, words_from}
use Rattle.capnp_layout.proofs.objects.SectionWordByIndexLemmas.{length-words_from}
use Rattle.capnp_wire.proofs.objects.NumberAsStructLemmas.{length-own_data}
use Rattle.capnp_wire.proofs.any_struct.reader.StructReader.data_words.Goals as goal

pub returns : goal.returns
returns g c =
    let self = c.args.self.now in
    length-words_from self.segment.now self.start.word self.size.data_words (omega (arith, self.room))
    ∙ sym (length-own_data self.part (words_from (words_of self.segment.now) self.start.word self.size.data_words))
