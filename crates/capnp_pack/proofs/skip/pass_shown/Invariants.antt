-- What is passed over is the groups so far.
use Rattle.std.proofs.Common.{◌-◌, length}
use Rattle.capnp_pack.specs.Prelude.{BeginsWithGroups}
use Rattle.capnp_pack.proofs.skip.pass_shown.Given as goal

abbrev pub invariant-loop-group : goal.invariant-loop-group
invariant-loop-group l = BeginsWithGroups l.shown l.most l.used l.filled

abbrev pub decreases-loop-group : goal.decreases-loop-group
decreases-loop-group l = length l.shown - l.used
