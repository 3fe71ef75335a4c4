-- A list of numbers is a view that decides which objects it accepts.
use Rattle.capnp_wire.specs.Prelude.{NumbersFormError, TakesNumbers, pointer_of, numbers_of}
use Rattle.capnp_wire.proofs.views.RejectedExcludesAcceptedLemmas.{is_view_of, numbers_decide}
use Rattle.capnp_wire.proofs.views.EnteredListShownOrRejectedLemmas.{numbers_accepted}
use Rattle.capnp_wire.proofs.primitive_list.reader.ReaderFromPointerReader.get_from_pointer.Goals as goal

pub returns : goal.returns
returns g c =
    let p = pointer_of g.S.ReaderSegments.segments c.args.reader in
    let code = g.T.PrimitiveElement.code in
    is_view_of p (TakesNumbers code) (NumbersFormError code) _ (numbers_decide code) (λ view shown. numbers_accepted p code (numbers_of code view) shown) c.read.result c.read.ensures
