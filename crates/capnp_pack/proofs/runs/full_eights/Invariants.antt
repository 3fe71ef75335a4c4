-- The words so far are of that kind.
use Rattle.std.proofs.Common.{◌-◌, ◌≤◌, length, take}
use Rattle.std.specs.List.{AllByRecursion}
use Rattle.capnp_pack.specs.Prelude.{HasFewZeros}
use Rattle.capnp_pack.proofs.runs.full_eights.Given as goal

abbrev pub invariant-loop-count : goal.invariant-loop-count
invariant-loop-count l = (l.count ≤ length l.words) × AllByRecursion HasFewZeros (take l.count l.words)

abbrev pub decreases-loop-count : goal.decreases-loop-count
decreases-loop-count l = length l.words - l.count
