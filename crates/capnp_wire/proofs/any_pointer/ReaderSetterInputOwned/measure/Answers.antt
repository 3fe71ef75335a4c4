-- What a pointer points to has the words of its tree, untrimmed or in canonical form.
use Rattle.std.proofs.Common.{ℕ, Result, Ok}
use Rattle.capnp_frame.specs.declared.error.Error.{Error}
use Rattle.capnp_wire.specs.Prelude.{pointer_of, PointsToTree, WalkErrorFrom}
use Rattle.capnp_wire.proofs.forms.TargetWrittenInCanonicalFormLemmas.{none_has_words, measured_value}
use Rattle.capnp_wire.proofs.views.UniqueValueTreeAndMeasureLemmas.{one_of_pointer, measured_found, measured_exactly}
use Rattle.capnp_wire.proofs.any_pointer.ReaderSetterInputOwned.measure.Goals as goal

pub returns-in-None : goal.returns-in-None
returns-in-None g c =
    let p = pointer_of g.S.ReaderSegments.segments c.args.self.now in
    let nothing : Result ℕ Error = Ok 0 in
    let returned = none_has_words p c.args.canonical c.in-None.is in
    record {
      returned = returned;
      found = measured_found (PointsToTree p) (WalkErrorFrom p) (one_of_pointer p) c.args.canonical nothing returned;
      exact = measured_exactly (PointsToTree p) (WalkErrorFrom p) (one_of_pointer p) c.args.canonical nothing returned;
    }

pub returns-in-Some : goal.returns-in-Some
returns-in-Some g c =
    let p = pointer_of g.S.ReaderSegments.segments c.args.self.now in
    let returned = measured_value p c.in-Some.place c.args.canonical c.measure.result c.in-Some.is (rw c.limit_in_words.ensures at c.measure.ensures.returned) in
    record {
      returned = returned;
      found = measured_found (PointsToTree p) (WalkErrorFrom p) (one_of_pointer p) c.args.canonical c.measure.result returned;
      exact = measured_exactly (PointsToTree p) (WalkErrorFrom p) (one_of_pointer p) c.args.canonical c.measure.result returned;
    }
