-- The numbers from here on have no more bits than their type has.
use Rattle.std.proofs.Common.{◌≤◌, ◌<◌, ◌^◌, length, drop, map}
use Rattle.std.specs.Prelude.{All}
use Rattle.capnp_layout.specs.Prelude.{width}
use Rattle.capnp_values.proofs.number_list.numbers_fit.Given as goal

abbrev pub invariant-items : goal.invariant-items
invariant-items g l = (l.left ≤ length l.items) × All (λ v. v < 2 ^ width g.N.PrimitiveElement.code) (map g.N.PrimitiveElement.bits_of (drop l.left l.items))

abbrev pub decreases-items : goal.decreases-items
decreases-items g l = l.left
