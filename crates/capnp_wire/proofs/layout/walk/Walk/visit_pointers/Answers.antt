-- A list of pointers counts against the traversal limit, and its words are counted.
use Rattle.std.proofs.Common.{◌∙◌}
use Rattle.capnp_wire.proofs.walks.WalkEntersLocalObjectLemmas.{pointer_list_entered}
use Rattle.capnp_frame.proofs.sources.JoinedCallsAdvanceSourceLemmas.{passed_on}
use Rattle.capnp_wire.proofs.walks.WalkErrorExcludesTreesLemmas.{past_limit_error}
use Rattle.capnp_wire.proofs.layout.walk.Walk.visit_pointers.Goals as goal

pub returns-in_err-count_traversed-clause-errors : goal.returns-in_err-count_traversed-clause-errors
returns-in_err-count_traversed-clause-errors c m place nesting is deep =
    passed_on _ _ c.from_residual.ensures.1 (past_limit_error m place _ nesting _ _ is.object deep c.in_err-count_traversed.ensures.errors.0 c.in_err-count_traversed.ensures.errors.1)

pub returns-clause-found : goal.returns-clause-found
returns-clause-found c m canonical place nesting is deep =
    pointer_list_entered c.args.list.now is deep c.in_ok-count_traversed.ensures.within (c.count.ensures.left ∙ c.in_ok-count_traversed.ensures.left) (rw c.in_ok-count_traversed.ensures.words at c.count.ensures.words)
