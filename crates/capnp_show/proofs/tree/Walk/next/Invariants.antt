-- No node is left of the runs that were taken.
use Rattle.std.proofs.Common.{◌≡◌, List, ◌++◌, length, vec_items}
use Rattle.std.specs.List.{All}
use Rattle.capnp_show.specs.NodeRuns.{IsSpent}
use Rattle.capnp_show.specs.declared.tree.NodeRun.{NodeRun}
use Rattle.capnp_show.proofs.tree.Walk.next.Given as goal

abbrev pub invariant-loop-run : goal.invariant-loop-run
invariant-loop-run g l = (spent : List NodeRun) × (vec_items l.initial.self.runs ≡ vec_items l.self.runs ++ spent)
    × All IsSpent spent × (l.self.left ≡ l.initial.self.left)

abbrev pub decreases-loop-run : goal.decreases-loop-run
decreases-loop-run g l = length (vec_items l.self.runs)
