-- What is written of numbers that are read as structs is the body of their list.
use Rattle.std.proofs.Common.{ℕ, ap, arith}
use Rattle.capnp_layout.specs.Prelude.{words_of, code_of, width, words_for}
use Rattle.capnp_wire.specs.Prelude.{IsElementsValue, numbers_in_structs}
use Rattle.capnp_wire.proofs.layouts.NullAndNumbersWrittenLemmas.{tree_body_long, numbers_total}
use Rattle.capnp_wire.proofs.views.NumberListMeasureLemmas.{numbers_long}
use Rattle.capnp_wire.proofs.views.UniqueTreeOfUpgradedListLemmas.{one_of_elements}
use Rattle.capnp_wire.proofs.upgraded.values.StructListSetterInputStruct_listOwned.write.Goals as goal

pub write_numbers-requires-clause-few : goal.write_numbers-requires-clause-few
write_numbers-requires-clause-few g c =
    let elements = c.in-Numbers.numbers in
    let value = rw c.in-Numbers.is at c.requires.value in
    omega (arith, value.tree_is.0, c.as_value.ensures.count, numbers_long (words_of elements.bytes.now) 0 (code_of elements.size) elements.count)

pub write_numbers-requires-clause-room : goal.write_numbers-requires-clause-room
write_numbers-requires-clause-room g c =
    let elements = c.in-Numbers.numbers in
    let code : ℕ = code_of elements.size in
    let value = rw c.in-Numbers.is at c.requires.value in
    let long = numbers_long (words_of elements.bytes.now) 0 code elements.count in
    rw (c.as_value.ensures.count, c.as_value.ensures.size)
    (omega (arith, value.fits, numbers_total c.args.canonical code (numbers_in_structs elements) value.trees value.tree_is.1, ap (λ (k : ℕ). words_for k (width code)) long))

pub returns-in-Numbers-clause-long : goal.returns-in-Numbers-clause-long
returns-in-Numbers-clause-long g c trees is =
    let segments = g.S.ReaderSegments.segments in
    let elements = c.args.self.now.elements in
    tree_body_long (IsElementsValue segments elements) c.args.canonical c.args.next _ (one_of_elements segments elements).same_tree c.requires.value trees is
