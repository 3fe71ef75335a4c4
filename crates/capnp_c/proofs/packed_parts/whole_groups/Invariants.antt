-- What is passed over is the groups so far.
use Rattle.std.proofs.Common.{◌-◌}
use Rattle.capnp_pack.specs.Prelude.{BeginsWithGroups}
use Rattle.capnp_c.proofs.packed_parts.whole_groups.Given as goal

abbrev pub invariant-loop-filled : goal.invariant-loop-filled
invariant-loop-filled l = BeginsWithGroups l.packed l.most l.used l.filled

abbrev pub decreases-loop-filled : goal.decreases-loop-filled
decreases-loop-filled l = l.most - l.filled
