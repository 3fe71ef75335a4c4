-- A list of pointers is a view that decides which objects it accepts.
use Rattle.capnp_wire.specs.Prelude.{pointer_of, TakesPointers, PointersFormError, pointer_list_of}
use Rattle.capnp_wire.proofs.views.RejectedExcludesAcceptedLemmas.{is_view_of}
use Rattle.capnp_wire.proofs.views.EnteredListShownOrRejectedLemmas.{pointers_decide, pointers_accepted}
use Rattle.capnp_wire.proofs.any_pointer_list.reader.ReaderFromPointerReader.get_from_pointer.Goals as goal

pub returns : goal.returns
returns g c =
    let p = pointer_of g.S.ReaderSegments.segments c.args.reader in
    is_view_of p TakesPointers PointersFormError _ pointers_decide (λ view shown. pointers_accepted p (pointer_list_of g.S.ReaderSegments.segments view) shown) c.read.result c.read.ensures
