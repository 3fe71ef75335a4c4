-- A walk meets an object, and then goes over its pointers.
use Rattle.std.proofs.Common.{◌∙◌, refl, arith}
use Rattle.capnp_layout.specs.Prelude.{places_in}
use Rattle.capnp_wire.specs.Prelude.{counted}
use Rattle.capnp_wire.proofs.walks.EmptyStructWalkAndCopyLemmas.{null_or_empty_walked}
use Rattle.capnp_frame.proofs.sources.JoinedCallsAdvanceSourceLemmas.{passed_on}
use Rattle.capnp_wire.proofs.walks.WalkEntersPointerRunLemmas.{parent_met, parent_fails, struct_holds, going_below}
use Rattle.capnp_wire.proofs.walks.WalkProgressLemmas.{going_begins, going_there, going_on, going_done, progress_done, progress_error, progress_fails_there, entered, walk_goes_on, walk_fails}
use Rattle.capnp_wire.proofs.layout.walk.Walk.+walk.Goals as goal

pub walk_object-returns-in_err-object-clause-errors : goal.walk_object-returns-in_err-object-clause-errors
walk_object-returns-in_err-object-clause-errors g t c = passed_on _ _ c.from_residual.ensures.1 c.in_err-object.ensures.errors

pub walk_object-returns-in_default-clause-found : goal.walk_object-returns-in_default-clause-found
walk_object-returns-in_default-clause-found g t c = rw c.in_default.is at c.in_ok-object.ensures.found

pub walk_object-walk_pointers-requires : goal.walk_object-walk_pointers-requires
walk_object-walk_pointers-requires g t c κs within =
    let met = rw c.in-Some.is at c.in_ok-object.ensures.found in (omega (arith, met.deep), (within, λ some. rw c.pointers.ensures.segment met.there.content))

pub walk_object-returns-clause-found : goal.walk_object-returns-clause-found
walk_object-returns-clause-found g t c =
    walk_goes_on c.walk_pointers.new.self.left (counted c.walk_pointers.new.self) (places_in c.pointers.result) c.walk_pointers.result (entered (rw c.in-Some.is at c.in_ok-object.ensures.found))
    c.pointers.ensures.places c.walk_pointers.ensures.found

pub walk_object-returns-clause-errors : goal.walk_object-returns-clause-errors
walk_object-returns-clause-errors g t c =
    walk_fails (places_in c.pointers.result) c.walk_pointers.result (entered (rw c.in-Some.is at c.in_ok-object.ensures.found)) c.pointers.ensures.places c.walk_pointers.ensures.errors

pub walk_run-walk_pointers-requires : goal.walk_run-walk_pointers-requires
walk_run-walk_pointers-requires g t c κs within = (omega arith, (within, λ some. rw c.run-pointers.ensures.segment c.requires.content))

pub walk_run-returns-clause-found : goal.walk_run-returns-clause-found
walk_run-returns-clause-found g t c = rw (← c.run-pointers.ensures.places) c.walk_pointers.ensures.found

pub walk_run-returns-clause-errors : goal.walk_run-returns-clause-errors
walk_run-returns-clause-errors g t c = rw (← c.run-pointers.ensures.places) c.walk_pointers.ensures.errors

pub next_parent-pointers-init : goal.next_parent-pointers-init
next_parent-pointers-init g t c = going_begins c.requires.content

pub next_parent-returns-clause-found : goal.next_parent-returns-clause-found
next_parent-returns-clause-found g t c = progress_done (c.is_empty.ensures.0 c.pointers-test.false) c.pointers.invariant.progress

pub next_parent-pointers-preserved-in-Some : goal.next_parent-pointers-preserved-in-Some
next_parent-pointers-preserved-in-Some g t c =
    let takes = c.take-place.ensures in
    let content = going_there c.pointers.invariant takes.taken takes.segment in
    going_on c.pointers.invariant takes.taken takes.same_segment (null_or_empty_walked c.args.canonical content c.in-Some.ensures.0 c.in-Some.ensures.1)

pub next_parent-returns-in_err-alone-clause-errors : goal.next_parent-returns-in_err-alone-clause-errors
next_parent-returns-in_err-alone-clause-errors g t c =
    let takes = c.take-place.ensures in
    let local = c.in-Some-local_struct.ensures _ (going_there c.pointers.invariant takes.taken takes.segment) in
    passed_on _ _ c.from_residual.ensures.1 (progress_error takes.taken.places_are c.pointers.invariant.progress (c.in_err-alone.ensures.errors _ _ _ local.0 local.1))

pub next_parent-returns-then-not-alone-clause-found : goal.next_parent-returns-then-not-alone-clause-found
next_parent-returns-then-not-alone-clause-found g t c =
    let p = c.pointers-then-not-alone.ensures in
    let takes = c.take-place.ensures in
    let local = c.in-Some-local_struct.ensures _ (going_there c.pointers.invariant takes.taken takes.segment) in (
      parent_met takes.taken.places_are c.pointers.invariant.progress
          (struct_holds c.in-Some-local_struct.found c.pointers-then-not-alone.result (c.in_ok-alone.ensures.found _ _ _ local.0 local.1).0 p.content p.word p.segment p.count),
      takes.same_segment ∙ c.pointers.invariant.same_segment,
    )

pub next_parent-pointers-preserved-else-not-alone : goal.next_parent-pointers-preserved-else-not-alone
next_parent-pointers-preserved-else-not-alone g t c =
    let takes = c.take-place.ensures in
    let local = c.in-Some-local_struct.ensures _ (going_there c.pointers.invariant takes.taken takes.segment) in
    going_on c.pointers.invariant takes.taken takes.same_segment ((c.in_ok-alone.ensures.found _ _ _ local.0 local.1).1 c.if-not-alone.false)

pub next_parent-returns-in_err-visit_numbers-clause-errors : goal.next_parent-returns-in_err-visit_numbers-clause-errors
next_parent-returns-in_err-visit_numbers-clause-errors g t c =
    let takes = c.take-place.ensures in
    let local = c.in-Some-local_list.ensures _ (going_there c.pointers.invariant takes.taken takes.segment) in
    passed_on _ _ c.from_residual-in_err-visit_numbers.ensures.1 (progress_error takes.taken.places_are c.pointers.invariant.progress (c.in_err-visit_numbers.ensures.errors _ _ _ local.0 local.1))

pub next_parent-pointers-preserved-in-Continue-branch-2 : goal.next_parent-pointers-preserved-in-Continue-branch-2
next_parent-pointers-preserved-in-Continue-branch-2 g t c =
    let takes = c.take-place.ensures in
    let local = c.in-Some-local_list.ensures _ (going_there c.pointers.invariant takes.taken takes.segment) in
    going_on c.pointers.invariant takes.taken takes.same_segment (c.in_ok-visit_numbers.ensures.found _ _ _ _ local.0 local.1)

pub next_parent-walk_object-requires : goal.next_parent-walk_object-requires
next_parent-walk_object-requires g t c κs within = (omega arith, (within, going_there c.pointers.invariant c.take-place.ensures.taken c.take-place.ensures.segment))

pub next_parent-pointers-preserved : goal.next_parent-pointers-preserved
next_parent-pointers-preserved g t c = going_on c.pointers.invariant c.take-place.ensures.taken c.take-place.ensures.same_segment c.in_ok-walk_object.ensures.found

pub next_parent-returns-in_err-walk_object-clause-errors : goal.next_parent-returns-in_err-walk_object-clause-errors
next_parent-returns-in_err-walk_object-clause-errors g t c =
    passed_on _ _ c.from_residual-in_err-walk_object.ensures.1 (progress_error c.take-place.ensures.taken.places_are c.pointers.invariant.progress c.in_err-walk_object.ensures.errors)

pub walk_pointers-parents-init : goal.walk_pointers-parents-init
walk_pointers-parents-init g t c = going_begins c.requires.content

pub walk_pointers-returns-clause-found : goal.walk_pointers-returns-clause-found
walk_pointers-returns-clause-found g t c = going_done c.parents.invariant (rw c.in_default.is at c.in_ok-parent.ensures.found)

pub walk_pointers-returns-in_err-parent-clause-errors : goal.walk_pointers-returns-in_err-parent-clause-errors
walk_pointers-returns-in_err-parent-clause-errors g t c = passed_on _ _ c.from_residual.ensures.1 (progress_fails_there c.parents.invariant.progress c.in_err-parent.ensures.errors)

pub walk_pointers-children-init : goal.walk_pointers-children-init
walk_pointers-children-init g t c =
    let parent = rw c.in-Some.is at c.in_ok-parent.ensures.found in going_begins (λ some. rw c.slots-below.ensures.segment parent.0.enters.content)

pub walk_pointers-returns-in_err-child-clause-errors : goal.walk_pointers-returns-in_err-child-clause-errors
walk_pointers-returns-in_err-child-clause-errors g t c =
    let parent = rw c.in-Some.is at c.in_ok-parent.ensures.found in
    passed_on _ _ c.from_residual-in_err-child.ensures.1
    (parent_fails c.parents.invariant.progress parent.0 c.slots-below.ensures.places (progress_fails_there c.children.invariant.progress c.in_err-child.ensures.errors))

pub walk_pointers-children-preserved : goal.walk_pointers-children-preserved
walk_pointers-children-preserved g t c =
    let child = rw c.in-Some-2.is at c.in_ok-child.ensures.found in
    going_below c.children.invariant child.0 child.1 refl c.in_ok-walk_run.ensures.found

pub walk_pointers-returns-in_err-walk_run-clause-errors : goal.walk_pointers-returns-in_err-walk_run-clause-errors
walk_pointers-returns-in_err-walk_run-clause-errors g t c =
    let parent = rw c.in-Some.is at c.in_ok-parent.ensures.found in
    let child = rw c.in-Some-2.is at c.in_ok-child.ensures.found in
    passed_on _ _ c.from_residual-in_err-walk_run.ensures.1
    (parent_fails c.parents.invariant.progress parent.0 c.slots-below.ensures.places (parent_fails c.children.invariant.progress child.0 refl c.in_err-walk_run.ensures.errors))

pub walk_pointers-parents-preserved : goal.walk_pointers-parents-preserved
walk_pointers-parents-preserved g t c =
    let parent = rw c.in-Some.is at c.in_ok-parent.ensures.found in
    going_below c.parents.invariant parent.0 parent.1 c.slots-below.ensures.places (going_done c.children.invariant (rw c.in_default-2.is at c.in_ok-child.ensures.found))
