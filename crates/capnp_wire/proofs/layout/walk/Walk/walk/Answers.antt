-- The first pointer is null, or points to a list of pointers, which are walked over, or to anything else.
use Rattle.std.proofs.Common.{refl, arith}
use Rattle.capnp_layout.specs.Prelude.{at_pointer, no_word, no_segment}
use Rattle.capnp_wire.specs.Prelude.{counted}
use Rattle.capnp_frame.proofs.sources.JoinedCallsAdvanceSourceLemmas.{passed_on}
use Rattle.capnp_layout.proofs.words.WordAtPlaceLemmas.{segment_is_there, no_segment_is_there}
use Rattle.capnp_wire.proofs.walks.EmptyStructWalkAndCopyLemmas.{null_or_empty_walked}
use Rattle.capnp_wire.proofs.walks.WalkProgressLemmas.{entered, walk_goes_on, walk_fails}
use Rattle.capnp_wire.proofs.layout.walk.Walk.walk.Goals as goal

pub returns-in_err-segment-clause-errors : goal.returns-in_err-segment-clause-errors
returns-in_err-segment-clause-errors g c =
    passed_on _ _ c.from_residual.ensures.1 (at_pointer (no_word (rw c.in_err-segment.ensures.1 (no_segment (no_segment_is_there _ c.args.place.segment c.in_err-segment.ensures.0)))))

pub returns-in-Some-clause-found : goal.returns-in-Some-clause-found
returns-in-Some-clause-found g c =
    null_or_empty_walked c.args.canonical (segment_is_there _ c.args.place.segment _ c.in_ok-segment.ensures) c.in-Some.ensures.0 c.in-Some.ensures.1

pub returns-in_err-visit_pointers-clause-errors : goal.returns-in_err-visit_pointers-clause-errors
returns-in_err-visit_pointers-clause-errors g c =
    let local = c.in-Some-local_pointers.ensures _ (segment_is_there _ c.args.place.segment _ c.in_ok-segment.ensures) in
    passed_on _ _ c.from_residual-in_err-visit_pointers.ensures.1 (c.in_err-visit_pointers.ensures.errors _ _ _ local.0 local.1)

pub overflow_sub-below : goal.overflow_sub-below
overflow_sub-below g c =
    let local = c.in-Some-local_pointers.ensures _ (segment_is_there _ c.args.place.segment _ c.in_ok-segment.ensures) in omega (arith, local.1)

pub walk_run-requires : goal.walk_run-requires
walk_run-requires g c =
    let local = c.in-Some-local_pointers.ensures _ (segment_is_there _ c.args.place.segment _ c.in_ok-segment.ensures) in
    record { bound = c.in-Some-local_pointers.list.bound; content = local.0.content }

pub returns-in-Some-local_pointers-clause-found : goal.returns-in-Some-local_pointers-clause-found
returns-in-Some-local_pointers-clause-found g c =
    let local = c.in-Some-local_pointers.ensures _ (segment_is_there _ c.args.place.segment _ c.in_ok-segment.ensures) in
    let enters = c.in_ok-visit_pointers.ensures.found _ c.args.canonical _ _ local.0 local.1 in
    walk_goes_on c.walk_run.new.self.left (counted c.walk_run.new.self) _ c.walk_run.result (entered enters) refl c.walk_run.ensures.found

pub returns-in-Some-local_pointers-clause-errors : goal.returns-in-Some-local_pointers-clause-errors
returns-in-Some-local_pointers-clause-errors g c =
    let local = c.in-Some-local_pointers.ensures _ (segment_is_there _ c.args.place.segment _ c.in_ok-segment.ensures) in
    let enters = c.in_ok-visit_pointers.ensures.found _ c.args.canonical _ _ local.0 local.1 in
    walk_fails _ c.walk_run.result (entered enters) refl c.walk_run.ensures.errors

pub walk_object-requires : goal.walk_object-requires
walk_object-requires g c = record { content = segment_is_there _ c.args.place.segment _ c.in_ok-segment.ensures }
