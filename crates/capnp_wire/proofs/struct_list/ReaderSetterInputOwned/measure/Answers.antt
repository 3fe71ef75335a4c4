-- A list of structs that is read has, with all below it, the words of its tree.
use Rattle.capnp_wire.specs.Prelude.{struct_list_of, IsListTree, WalkErrorInList, pointers_in, structs_form}
use Rattle.capnp_wire.proofs.views.UniqueValueTreeAndMeasureLemmas.{measured_found, measured_exactly}
use Rattle.capnp_wire.proofs.views.ListValueMeasureLemmas.{one_of_list}
use Rattle.capnp_wire.proofs.struct_list.ReaderSetterInputOwned.measure.Goals as goal

pub returns : goal.returns
returns g c =
    let form = structs_form g.S.ReaderSegments.segments c.args.self.now in
    let list = pointers_in (struct_list_of g.S.ReaderSegments.segments c.args.self.now) in
    let returned = rw c.limit_in_words.ensures at c.measure.ensures in
    record {
      returned = returned;
      found = measured_found (IsListTree form list) (WalkErrorInList list) (one_of_list form list) c.args.canonical c.measure.result returned;
      exact = measured_exactly (IsListTree form list) (WalkErrorInList list) (one_of_list form list) c.args.canonical c.measure.result returned;
    }
