-- What is skipped is whole groups, the first ones of the chunk.
use Rattle.std.proofs.Common.{◌-◌, ◌≡◌, ◌<◌, ◌≤◌, ◌%◌, []}
use Rattle.std.specs.Prelude.{IfSome}
use Rattle.capnp_frame.specs.Prelude.{IfKnown, Advances}
use Rattle.capnp_pack.specs.Prelude.{HasProgress}
use Rattle.capnp_pack.proofs.skip.skip_chunk.Given as goal

abbrev pub invariant-loop-skipped : goal.invariant-loop-skipped
invariant-loop-skipped g l = let R = g.R.Read in record {
  within : l.skipped ≤ l.count;
  whole : l.skipped % 8 ≡ 0;
  some : 0 < l.skipped → IfSome (R.unread l.initial.source) (λ raw. raw ≡ [] → ⊥);
  start : l.skipped ≡ 0 → R.unread l.source ≡ R.unread l.initial.source;
  groups : IfKnown (R.unread l.initial.source) (R.unread l.source) (HasProgress l.skipped);
  advances : Advances R.unread R.failures R.same l.initial.source l.source;
}

abbrev pub decreases-loop-skipped : goal.decreases-loop-skipped
decreases-loop-skipped g l = l.count - l.skipped
