-- The view of a list shows the numbers that the pointer points to.
use Rattle.capnp_wire.specs.Prelude.{pointer_of, ReadsAsNumbers, FieldsFormError, upgraded_numbers_of}
use Rattle.capnp_wire.proofs.views.EnteredObjectShownLemmas.{entered_view}
use Rattle.capnp_wire.proofs.upgraded.number_list.NumberListObjectView.of_object.Goals as goal

pub returns : goal.returns
returns g c =
    let pointer = pointer_of g.S.ReaderSegments.segments c.args._reader.now in
    let code = g.T.PrimitiveElement.code in
    entered_view pointer c.args.object.now (λ view form. ReadsAsNumbers code form (upgraded_numbers_of code view)) (FieldsFormError code) c.of.result c.requires c.of.ensures
