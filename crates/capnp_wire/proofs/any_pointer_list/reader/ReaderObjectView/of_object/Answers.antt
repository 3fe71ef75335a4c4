-- The pointers of a list are the object's, with one less of nesting depth left.
use Rattle.std.proofs.Common.{inr, refl}
use Rattle.capnp_wire.specs.Prelude.{pointer_of, PointersFormError}
use Rattle.capnp_wire.proofs.views.EnteredObjectShownLemmas.{entered_shows}
use Rattle.capnp_wire.proofs.views.EnteredListShownOrRejectedLemmas.{other_than_pointers, pointers_show, list_pointers_within, few_pointers}
use Rattle.capnp_wire.proofs.any_pointer_list.reader.ReaderObjectView.of_object.Goals as goal

pub returns-in_default : goal.returns-in_default
returns-in_default g c =
    let p = pointer_of g.S.ReaderSegments.segments c.args.reader.now in
    let kind = c.wrong_kind.result.kind in
    inr (entered_shows p c.args.object.now (λ form. PointersFormError form kind) c.requires
    (other_than_pointers c.args.object.now kind c.in_default.ensures c.wrong_kind.ensures))

pub returns : goal.returns
returns g c =
    let p = pointer_of g.S.ReaderSegments.segments c.args.reader.now in
    record {
      same_message = refl;
      shown = pointers_show p c.args.object.now c.in-Some.count c.requires c.in-Some.ensures;
      nesting_below = c.saturating_sub-nesting.ensures;
      same_limit = refl;
    }

pub invariant_of-result : goal.invariant_of-result
invariant_of-result g c =
    let p = pointer_of g.S.ReaderSegments.segments c.args.reader.now in
    let count = c.in-Some.count in
    record {
      bound = list_pointers_within p c.args.object.now count c.requires c.in-Some.ensures c.words_fit.ensures.length;
      few = few_pointers p c.args.object.now count c.requires c.in-Some.ensures;
    }
