-- Data is a view that decides which objects it accepts.
use Rattle.capnp_wire.specs.Prelude.{NumbersFormError, TakesNumbers, pointer_of}
use Rattle.capnp_wire.proofs.views.RejectedExcludesAcceptedLemmas.{is_view_of, numbers_decide, data_accepted}
use Rattle.capnp_wire.proofs.data.reader.RefSliceU8FromPointerReader.get_from_pointer.Goals as goal

pub returns : goal.returns
returns g c =
    let p = pointer_of g.S.ReaderSegments.segments c.args.reader in
    is_view_of p (TakesNumbers 2) (NumbersFormError 2) _ (numbers_decide 2) (λ view shown. data_accepted p view.now shown) c.read.result c.read.ensures
