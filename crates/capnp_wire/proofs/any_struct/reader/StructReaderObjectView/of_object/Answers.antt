-- The fields of a struct are the object's, with one less of nesting depth left.
use Rattle.std.proofs.Common.{inr, refl}
use Rattle.capnp_wire.specs.Prelude.{StructFormError, pointer_of}
use Rattle.capnp_wire.proofs.views.EnteredObjectShownLemmas.{entered_shows, other_than_struct, struct_shows}
use Rattle.capnp_wire.proofs.any_struct.reader.StructReaderObjectView.of_object.Goals as goal

pub returns-in_default : goal.returns-in_default
returns-in_default g c =
    let p = pointer_of g.S.ReaderSegments.segments c.args.reader.now in
    let kind = c.wrong_kind.result.kind in
    inr (entered_shows p c.args.object.now (λ form. StructFormError form kind) c.requires
    (other_than_struct c.args.object.now kind c.in_default.ensures c.wrong_kind.ensures))

pub returns : goal.returns
returns g c =
    let p = pointer_of g.S.ReaderSegments.segments c.args.reader.now in
    record {
      same_message = refl;
      shown = struct_shows p c.args.object.now c.in-Some.size c.requires c.in-Some.ensures;
      nesting_below = c.saturating_sub-nesting.ensures;
      same_limit = refl;
    }
