-- The view of a list shows the numbers that the pointer points to.
use Rattle.capnp_wire.specs.Prelude.{NumbersFormError, numbers_of, IsNumbers, pointer_of}
use Rattle.capnp_wire.proofs.views.EnteredObjectShownLemmas.{entered_view}
use Rattle.capnp_wire.proofs.primitive_list.reader.ReaderObjectView.of_object.Goals as goal

pub returns : goal.returns
returns g c =
    let pointer = pointer_of g.S.ReaderSegments.segments c.args._reader.now in
    let code = g.T.PrimitiveElement.code in
    entered_view pointer c.args.object.now (λ view form. IsNumbers code form (numbers_of code view)) (NumbersFormError code) c.in_object.result c.requires c.in_object.ensures
