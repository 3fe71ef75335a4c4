-- A list of pointers that is read has, with all below it, the words of its tree.
use Rattle.capnp_layout.specs.Prelude.{pointers}
use Rattle.capnp_wire.specs.Prelude.{pointer_list_of, IsListTree, WalkErrorInList}
use Rattle.capnp_wire.proofs.views.UniqueValueTreeAndMeasureLemmas.{measured_found, measured_exactly}
use Rattle.capnp_wire.proofs.views.ListValueMeasureLemmas.{one_of_list}
use Rattle.capnp_wire.proofs.any_pointer_list.ReaderSetterInputOwned.measure.Goals as goal

pub returns : goal.returns
returns g c =
    let list = pointer_list_of g.S.ReaderSegments.segments c.args.self.now in
    let returned = rw c.limit_in_words.ensures at c.measure.ensures in
    record {
      returned = returned;
      found = measured_found (IsListTree pointers list) (WalkErrorInList list) (one_of_list pointers list) c.args.canonical c.measure.result returned;
      exact = measured_exactly (IsListTree pointers list) (WalkErrorInList list) (one_of_list pointers list) c.args.canonical c.measure.result returned;
    }
