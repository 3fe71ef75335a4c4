-- Data is a view that decides which objects it accepts.
use Rattle.std.proofs.Common.{refl}
use Rattle.capnp_wire.specs.Prelude.{NumbersFormError, TakesNumbers, pointer_of}
use Rattle.capnp_wire.proofs.pointers.PointersInStructSegmentLemmas.{known_segment}
use Rattle.capnp_wire.proofs.views.RejectedExcludesAcceptedLemmas.{is_view_of, numbers_decide, data_accepted}
use Rattle.capnp_wire.proofs.data.reader.RefSliceU8FromPointerInSegment.get_from_segment.Goals as goal

pub returns : goal.returns
returns g c =
    let p = pointer_of g.S.ReaderSegments.segments c.args.reader in
    is_view_of p (TakesNumbers 2) (NumbersFormError 2) _ (numbers_decide 2) (λ view shown. data_accepted p view.now shown) c.read.result c.read.ensures

pub read-requires : goal.read-requires
read-requires g c κs = ((refl, tt), known_segment (pointer_of g.S.ReaderSegments.segments c.args.reader) c.args.segment c.requires)
