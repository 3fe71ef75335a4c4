-- A list of structs has as many elements as its tag says.
use Rattle.std.proofs.Common.{sym}
use Rattle.capnp_layout.specs.Prelude.{words_of}
use Rattle.capnp_layout.proofs.trees.ReadTreeSizesAndWordsBoundedLemmas.{length-elements_from}
use Rattle.capnp_wire.proofs.struct_list.reader.Reader.len.Goals as goal

pub returns : goal.returns
returns g c =
    let self = c.args.self.now in
    sym (length-elements_from (words_of self.segment.now) self.first.word self.elements.size.data_words self.elements.size.pointers self.elements.count)
