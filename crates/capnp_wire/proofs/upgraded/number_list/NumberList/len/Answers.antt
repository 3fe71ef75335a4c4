-- A list of structs has as many first fields as structs.
use Rattle.std.proofs.lemmas.List.{length-map}
use Rattle.std.proofs.Common.{◌%◌, ◌^◌, ℕ, List, length, slice_index_or, sym, ap, ◌∙◌}
use Rattle.capnp_layout.specs.Prelude.{words_of, width, elements_from}
use Rattle.capnp_wire.specs.Prelude.{values_of}
use Rattle.capnp_layout.proofs.trees.ReadTreeSizesAndWordsBoundedLemmas.{length-elements_from}
use Rattle.capnp_wire.proofs.upgraded.number_list.NumberList.len.Goals as goal

pub returns-in-OfStructs : goal.returns-in-OfStructs
returns-in-OfStructs g c =
    let list = c.in-OfStructs.list in
    let code = g.T.PrimitiveElement.code in
    let words = words_of list.segment.now in
    let field : List ℕ → ℕ = λ element. slice_index_or element 0 0 % 2 ^ width code in
    sym (length-map (elements_from words list.first list.size.data_words list.size.pointers list.count) field ∙ length-elements_from words list.first list.size.data_words list.size.pointers list.count)
    ∙ ap (λ n. length (values_of code n)) (sym c.in-OfStructs.is)
