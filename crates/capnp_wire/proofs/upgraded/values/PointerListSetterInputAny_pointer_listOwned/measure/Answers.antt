-- A list that is read as a list of pointers has the words of its tree.
use Rattle.std.proofs.Common.{rules}
use Rattle.capnp_wire.specs.Prelude.{IsPointerListValue, PointerListValueError}
use Rattle.capnp_wire.proofs.views.UniqueValueTreeAndMeasureLemmas.{measured_found, measured_exactly}
use Rattle.capnp_wire.proofs.views.UniqueTreeOfUpgradedListLemmas.{one_of_pointers}
use Rattle.capnp_wire.proofs.upgraded.values.PointerListSetterInputAny_pointer_listOwned.measure.Goals as goal

pub returns-in-Some-clause-returned : goal.returns-in-Some-clause-returned
returns-in-Some-clause-returned g c = search rules

pub returns-in-Some-clause-found : goal.returns-in-Some-clause-found
returns-in-Some-clause-found g c =
    let segments = g.S.ReaderSegments.segments in
    let list = c.args.self.now in
    measured_found (IsPointerListValue segments list) (PointerListValueError segments list) (one_of_pointers segments list) c.args.canonical c.measure.result (returns-in-Some-clause-returned g c)

pub returns-in-Some-clause-exact : goal.returns-in-Some-clause-exact
returns-in-Some-clause-exact g c =
    let segments = g.S.ReaderSegments.segments in
    let list = c.args.self.now in
    measured_exactly (IsPointerListValue segments list) (PointerListValueError segments list) (one_of_pointers segments list) c.args.canonical c.measure.result (returns-in-Some-clause-returned g c)
