-- A struct is a view that decides which objects it accepts.
use Rattle.std.proofs.Common.{refl}
use Rattle.capnp_wire.specs.Prelude.{pointer_of, StructFormError, TakesStruct, struct_of}
use Rattle.capnp_wire.proofs.pointers.PointersInStructSegmentLemmas.{known_segment}
use Rattle.capnp_wire.proofs.views.RejectedExcludesAcceptedLemmas.{is_view_of, struct_decides, struct_accepted}
use Rattle.capnp_wire.proofs.any_struct.reader.StructReaderFromPointerInSegment.get_from_segment.Goals as goal

pub returns : goal.returns
returns g c =
    let p = pointer_of g.S.ReaderSegments.segments c.args.reader in
    is_view_of p TakesStruct StructFormError _ struct_decides (λ view shown. struct_accepted p (struct_of g.S.ReaderSegments.segments view) shown) c.read.result c.read.ensures

pub read-requires : goal.read-requires
read-requires g c κs = ((refl, tt), known_segment (pointer_of g.S.ReaderSegments.segments c.args.reader) c.args.segment c.requires)
