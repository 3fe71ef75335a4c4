-- The words so far belong to the run.
use Rattle.std.proofs.Common.{◌-◌, ◌≤◌, take}
use Rattle.std.specs.List.{AllByRecursion}
use Rattle.capnp_pack.specs.Prelude.{HasFewZeros}
use Rattle.capnp_pack.proofs.runs.literal_run.Given as goal

abbrev pub invariant-loop-count : goal.invariant-loop-count
invariant-loop-count l = (l.count ≤ l.most) × AllByRecursion HasFewZeros (take l.count l.words)

abbrev pub decreases-loop-count : goal.decreases-loop-count
decreases-loop-count l = l.most - l.count
