-- What is not left is dropped.
use Rattle.std.proofs.Common.{◌-◌, ◌≤◌}
use Rattle.capnp_frame.specs.Prelude.{IfKnown, Advances, Drops}
use Rattle.capnp_frame.proofs.serialize.skipping.skip_parts.Given as goal

abbrev pub invariant-loop-left : goal.invariant-loop-left
invariant-loop-left g l = let R = g.R.Read in record {
  within : l.left ≤ l.count;
  dropped : IfKnown (R.unread l.initial.source) (R.unread l.source) (Drops (l.count - l.left));
  advances : Advances R.unread R.failures R.same l.initial.source l.source;
}

abbrev pub decreases-loop-left : goal.decreases-loop-left
decreases-loop-left g l = l.left
