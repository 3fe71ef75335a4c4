-- A struct is a view that decides which objects it accepts.
use Rattle.capnp_wire.specs.Prelude.{StructFormError, TakesStruct, pointer_of, struct_of}
use Rattle.capnp_wire.proofs.views.RejectedExcludesAcceptedLemmas.{is_view_of, struct_decides, struct_accepted}
use Rattle.capnp_wire.proofs.any_struct.reader.StructReaderFromPointerReader.get_from_pointer.Goals as goal

pub returns : goal.returns
returns g c =
    let p = pointer_of g.S.ReaderSegments.segments c.args.reader in
    is_view_of p TakesStruct StructFormError _ struct_decides (λ view shown. struct_accepted p (struct_of g.S.ReaderSegments.segments view) shown) c.read.result c.read.ensures
