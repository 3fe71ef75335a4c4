-- A list of structs is a view that decides which objects it accepts.
use Rattle.capnp_wire.specs.Prelude.{pointer_of, TakesStructs, StructsFormError, struct_list_of}
use Rattle.capnp_wire.proofs.views.RejectedExcludesAcceptedLemmas.{is_view_of}
use Rattle.capnp_wire.proofs.views.EnteredListShownOrRejectedLemmas.{structs_decide, structs_accepted}
use Rattle.capnp_wire.proofs.struct_list.reader.ReaderFromPointerReader.get_from_pointer.Goals as goal

pub returns : goal.returns
returns g c =
    let p = pointer_of g.S.ReaderSegments.segments c.args.reader in
    is_view_of p TakesStructs StructsFormError _ structs_decide (λ view shown. structs_accepted p (struct_list_of g.S.ReaderSegments.segments view) shown) c.read.result c.read.ensures
