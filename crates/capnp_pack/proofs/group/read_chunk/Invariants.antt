-- What is filled is whole groups, a front of the result to the whole request.
use Rattle.std.proofs.Common.{length, ◌-◌, ◌≡◌, ◌<◌, ◌≤◌, ◌%◌, take, []}
use Rattle.std.specs.Prelude.{IfSome}
use Rattle.capnp_frame.specs.Prelude.{IfKnown, Advances, ReturnsPart}
use Rattle.capnp_pack.specs.Prelude.{Unpacks, PackedError, HasProgress}
use Rattle.capnp_pack.proofs.group.read_chunk.Given as goal

abbrev pub invariant-loop-filled : goal.invariant-loop-filled
invariant-loop-filled g l = let R = g.R.Read in
    (length l.buffer ≡ length l.initial.buffer)
    × (l.filled ≤ length l.buffer)
    × (l.filled % 8 ≡ 0)
    × (0 < l.filled → IfSome (R.unread l.initial.source) (λ raw. raw ≡ [] → ⊥))
    × (l.filled ≡ 0 → R.unread l.source ≡ R.unread l.initial.source)
    × IfKnown (R.unread l.initial.source) (R.unread l.source) (ReturnsPart Unpacks PackedError (length l.buffer) (take l.filled l.buffer))
    × Advances R.unread R.failures R.same l.initial.source l.source
    × IfKnown (R.unread l.initial.source) (R.unread l.source) (HasProgress l.filled)

abbrev pub decreases-loop-filled : goal.decreases-loop-filled
decreases-loop-filled g l = length l.initial.buffer - l.filled
