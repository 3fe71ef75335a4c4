-- A list that is read as a list of structs has the words of its tree.
use Rattle.capnp_layout.specs.Prelude.{words_of}
use Rattle.capnp_wire.specs.Prelude.{IsElementsValue, ElementsValueError}
use Rattle.capnp_wire.proofs.views.UniqueValueTreeAndMeasureLemmas.{measured_found, measured_exactly}
use Rattle.capnp_wire.proofs.views.NumberListMeasureLemmas.{numbers_measured}
use Rattle.capnp_wire.proofs.views.UniqueTreeOfUpgradedListLemmas.{one_of_elements}
use Rattle.capnp_wire.proofs.upgraded.values.StructListSetterInputStruct_listOwned.measure.Goals as goal

pub returns-in-InPlace-clause-found : goal.returns-in-InPlace-clause-found
returns-in-InPlace-clause-found g c = rw c.in-InPlace.is c.measure.ensures.found

pub returns-in-Numbers-clause-returned : goal.returns-in-Numbers-clause-returned
returns-in-Numbers-clause-returned g c =
    let elements = c.in-Numbers.numbers in
    rw c.in-Numbers.is (numbers_measured elements.size (words_of elements.bytes.now) elements.count c.args.canonical c.measure_numbers.result c.measure_numbers.ensures)

pub returns-in-Numbers-clause-found : goal.returns-in-Numbers-clause-found
returns-in-Numbers-clause-found g c =
    let segments = g.S.ReaderSegments.segments in
    let elements = c.args.self.now.elements in
    measured_found (IsElementsValue segments elements) (ElementsValueError segments elements) (one_of_elements segments elements) c.args.canonical c.measure_numbers.result (returns-in-Numbers-clause-returned g c)

pub returns-in-Numbers-clause-exact : goal.returns-in-Numbers-clause-exact
returns-in-Numbers-clause-exact g c =
    let segments = g.S.ReaderSegments.segments in
    let elements = c.args.self.now.elements in
    measured_exactly (IsElementsValue segments elements) (ElementsValueError segments elements) (one_of_elements segments elements) c.args.canonical c.measure_numbers.result (returns-in-Numbers-clause-returned g c)
