-- A list of structs is a view that decides which objects it accepts.
use Rattle.std.proofs.Common.{refl}
use Rattle.capnp_wire.specs.Prelude.{pointer_of, TakesAsStructs, ElementsFormError, upgraded_structs_of}
use Rattle.capnp_wire.proofs.pointers.PointersInStructSegmentLemmas.{known_segment}
use Rattle.capnp_wire.proofs.views.RejectedExcludesAcceptedLemmas.{is_view_of}
use Rattle.capnp_wire.proofs.views.UpgradedListReadAsStructsLemmas.{elements_decide, elements_accepted}
use Rattle.capnp_wire.proofs.upgraded.struct_list.StructListFromPointerInSegment.get_from_segment.Goals as goal

pub returns : goal.returns
returns g c =
    let p = pointer_of g.S.ReaderSegments.segments c.args.reader in
    is_view_of p TakesAsStructs ElementsFormError _ elements_decide (λ view shown. elements_accepted p (upgraded_structs_of g.S.ReaderSegments.segments view) shown) c.read.result c.read.ensures

pub read-requires : goal.read-requires
read-requires g c κs = ((refl, tt), known_segment (pointer_of g.S.ReaderSegments.segments c.args.reader) c.args.segment c.requires)
