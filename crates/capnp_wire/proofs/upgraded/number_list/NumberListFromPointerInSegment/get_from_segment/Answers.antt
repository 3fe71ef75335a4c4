-- A list of numbers is a view that decides which objects it accepts.
use Rattle.std.proofs.Common.{refl}
use Rattle.capnp_wire.specs.Prelude.{pointer_of, TakesFields, FieldsFormError, upgraded_numbers_of}
use Rattle.capnp_wire.proofs.pointers.PointersInStructSegmentLemmas.{known_segment}
use Rattle.capnp_wire.proofs.views.RejectedExcludesAcceptedLemmas.{is_view_of}
use Rattle.capnp_wire.proofs.views.UpgradedListReadAsNumbersLemmas.{fields_decide, fields_accepted}
use Rattle.capnp_wire.proofs.upgraded.number_list.NumberListFromPointerInSegment.get_from_segment.Goals as goal

pub returns : goal.returns
returns g c =
    let p = pointer_of g.S.ReaderSegments.segments c.args.reader in
    let code = g.T.PrimitiveElement.code in
    is_view_of p (TakesFields code) (FieldsFormError code) _ (fields_decide code) (λ view shown. fields_accepted p code (upgraded_numbers_of code view) shown) c.read.result c.read.ensures

pub read-requires : goal.read-requires
read-requires g c κs = ((refl, tt), known_segment (pointer_of g.S.ReaderSegments.segments c.args.reader) c.args.segment c.requires)
