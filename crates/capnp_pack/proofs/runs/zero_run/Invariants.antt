-- The words so far belong to the run.
use Rattle.std.proofs.Common.{◌-◌, ◌≤◌, take}
use Rattle.std.specs.List.{AllByRecursion}
use Rattle.capnp_pack.specs.Prelude.{IsZero}
use Rattle.capnp_pack.proofs.runs.zero_run.Given as goal

abbrev pub invariant-loop-count : goal.invariant-loop-count
invariant-loop-count l = (l.count ≤ l.most) × AllByRecursion IsZero (take l.count l.words)

abbrev pub decreases-loop-count : goal.decreases-loop-count
decreases-loop-count l = l.most - l.count

abbrev pub invariant-loop-count-2 : goal.invariant-loop-count-2
invariant-loop-count-2 l = (l.count ≤ l.most) × AllByRecursion IsZero (take l.count l.words)

abbrev pub decreases-loop-count-2 : goal.decreases-loop-count-2
decreases-loop-count-2 l = l.most - l.count
