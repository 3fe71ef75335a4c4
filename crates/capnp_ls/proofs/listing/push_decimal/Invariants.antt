-- The digits from `at` on follow the digits of what is left.
use Rattle.std.proofs.Common.{◌≡◌, ◌++◌, ◌<◌, ◌≤◌, ◌^◌, length, drop}
use Rattle.std.specs.Prelude.{decimal}
use Rattle.capnp_ls.proofs.listing.push_decimal.Given as goal

abbrev pub invariant-loop-left : goal.invariant-loop-left
invariant-loop-left l = (1 ≤ l.at) × (l.at ≤ 20) × (l.left < 10 ^ l.at) × (length l.digits ≡ 20) × (decimal l.number ≡ decimal l.left ++ drop l.at l.digits)

abbrev pub decreases-loop-left : goal.decreases-loop-left
decreases-loop-left l = l.left
