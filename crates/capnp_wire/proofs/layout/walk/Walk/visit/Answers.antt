-- An object counts against the traversal limit and its words are counted, or the walk stops there.
use Rattle.capnp_layout.specs.Prelude.{is_null as null_there, at_pointer}
use Rattle.capnp_frame.proofs.sources.JoinedCallsAdvanceSourceLemmas.{passed_on}
use Rattle.capnp_wire.proofs.walks.WalkErrorExcludesTreesLemmas.{past_limit_error}
use Rattle.capnp_wire.proofs.walks.WalkProgressLemmas.{walked_null}
use Rattle.capnp_wire.proofs.layout.walk.Walk.visit.Goals as goal

pub returns-in_err-object-clause-errors : goal.returns-in_err-object-clause-errors
returns-in_err-object-clause-errors g c = passed_on _ _ c.from_residual.ensures.1 (at_pointer c.in_err-object.ensures.errors)

pub returns-in_default-clause-found : goal.returns-in_default-clause-found
returns-in_default-clause-found g c = walked_null _ c.args.canonical c.args.place c.args.nesting _ _ (null_there (rw c.in_default.is at c.in_ok-object.ensures.found))

pub returns-in_err-enter-clause-errors : goal.returns-in_err-enter-clause-errors
returns-in_err-enter-clause-errors g c =
    let found = rw c.in-Some.is at c.in_ok-object.ensures.found in
    passed_on _ _ c.from_residual-in_err-enter.ensures.1
    (past_limit_error _ c.args.place _ c.args.nesting _ _ found.0.object found.1 c.in_err-enter.ensures.errors.0 c.in_err-enter.ensures.errors.1)

pub returns-clause-found : goal.returns-clause-found
returns-clause-found g c =
    let found = rw c.in-Some.is at c.in_ok-object.ensures.found in
    let entered = c.in_ok-enter.ensures in
    record { there = found.0; deep = found.1; within = entered.within; left_is = entered.left; counted = entered.words }
