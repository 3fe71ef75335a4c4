-- A list of numbers counts against the traversal limit and its words are counted; nothing is below
-- it.
use Rattle.std.proofs.Common.{◌∙◌}
use Rattle.capnp_wire.proofs.walks.WalkEntersLocalObjectLemmas.{number_list_walked}
use Rattle.capnp_frame.proofs.sources.JoinedCallsAdvanceSourceLemmas.{passed_on}
use Rattle.capnp_wire.proofs.walks.WalkErrorExcludesTreesLemmas.{past_limit_error}
use Rattle.capnp_wire.proofs.layout.walk.Walk.visit_numbers.Goals as goal

pub returns-in_err-count_traversed-clause-errors : goal.returns-in_err-count_traversed-clause-errors
returns-in_err-count_traversed-clause-errors c m place nesting is deep =
    let errors = rw c.traversed.ensures at c.in_err-count_traversed.ensures.errors in
    passed_on _ _ c.from_residual.ensures.1 (past_limit_error m place _ nesting _ _ is.object deep errors.0 errors.1)

pub returns-clause-found : goal.returns-clause-found
returns-clause-found c m canonical place nesting is deep =
    number_list_walked c.args.list.now is deep c.traversed.ensures c.words.ensures c.in_ok-count_traversed.ensures.within (c.count.ensures.left ∙ c.in_ok-count_traversed.ensures.left) (rw c.in_ok-count_traversed.ensures.words at c.count.ensures.words)
