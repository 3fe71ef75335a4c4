-- The view of a list of bytes in the pointer's segment shows the bytes that the pointer points to.
use Rattle.capnp_wire.specs.Prelude.{IsData, NumbersFormError, pointer_of}
use Rattle.capnp_wire.proofs.views.EnteredObjectShownLemmas.{entered_view}
use Rattle.capnp_wire.proofs.data.reader.RefSliceU8ObjectView.of_object.Goals as goal

pub returns : goal.returns
returns g c =
    let pointer = pointer_of g.S.ReaderSegments.segments c.args._reader.now in
    entered_view pointer c.args.object.now (λ bytes form. IsData form bytes.now) (NumbersFormError 2) c.bytes_in.result c.requires c.bytes_in.ensures
