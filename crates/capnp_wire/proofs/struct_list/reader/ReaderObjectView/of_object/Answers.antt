-- The elements of a list are the object's, with one less of nesting depth left.
use Rattle.std.proofs.Common.{inr, sym, subst}
use Rattle.capnp_wire.specs.Prelude.{pointer_of, StructsFormError, IsStructList}
use Rattle.capnp_wire.proofs.views.EnteredObjectShownLemmas.{entered_shows}
use Rattle.capnp_wire.proofs.views.EnteredListShownOrRejectedLemmas.{other_than_structs, structs_entered, few_structs}
use Rattle.capnp_wire.proofs.struct_list.reader.ReaderObjectView.of_object.Goals as goal

pub returns-in_default : goal.returns-in_default
returns-in_default g c =
    let p = pointer_of g.S.ReaderSegments.segments c.args.reader.now in
    let kind = c.wrong_kind.result.kind in
    inr (entered_shows p c.args.object.now (λ form. StructsFormError form kind) c.requires
    (other_than_structs c.args.object.now kind c.in_default.ensures c.wrong_kind.ensures))

pub returns : goal.returns
returns g c =
    let p = pointer_of g.S.ReaderSegments.segments c.args.reader.now in
    let there = c.in-Some.ensures in
    subst (IsStructList p) (sym c.within.ensures) (structs_entered p c.args.object.now c.in-Some.elements there.0 c.requires there.1)

pub within-requires-clause-few : goal.within-requires-clause-few
within-requires-clause-few g c =
    let p = pointer_of g.S.ReaderSegments.segments c.args.reader.now in
    let there = c.in-Some.ensures in (few_structs p c.args.object.now c.in-Some.elements there.0 c.requires there.1).0

pub within-requires-clause-few_words : goal.within-requires-clause-few_words
within-requires-clause-few_words g c =
    let p = pointer_of g.S.ReaderSegments.segments c.args.reader.now in
    let there = c.in-Some.ensures in (few_structs p c.args.object.now c.in-Some.elements there.0 c.requires there.1).1
