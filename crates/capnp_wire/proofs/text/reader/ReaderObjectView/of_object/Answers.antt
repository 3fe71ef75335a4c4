-- The view of a list of bytes shows the text that the pointer points to.
use Rattle.capnp_wire.specs.Prelude.{IsText, TextFormError, pointer_of}
use Rattle.capnp_wire.proofs.views.EnteredObjectShownLemmas.{entered_view}
use Rattle.capnp_wire.proofs.text.reader.ReaderObjectView.of_object.Goals as goal

pub returns : goal.returns
returns g c =
    let pointer = pointer_of g.S.ReaderSegments.segments c.args._reader.now in
    entered_view pointer c.args.object.now (λ view form. IsText form view.bytes.now) TextFormError c.text_in.result c.requires c.text_in.ensures
