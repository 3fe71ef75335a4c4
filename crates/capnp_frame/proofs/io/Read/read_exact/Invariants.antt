-- What is filled is a front of the result to the whole request.
use Rattle.std.proofs.Common.{length, ◌-◌, ◌≡◌, ◌≤◌, take}
use Rattle.capnp_frame.specs.Prelude.{IfKnown, Advances, ReturnsPart}
use Rattle.capnp_frame.proofs.io.Read.read_exact.Given as goal

abbrev pub invariant-loop-filled : goal.invariant-loop-filled
invariant-loop-filled g l = let R = g.Self.Read in
    (length l.buffer ≡ length l.initial.buffer)
    × (l.filled ≤ length l.buffer)
    × IfKnown (R.unread l.initial.self) (R.unread l.self) (ReturnsPart R.gives R.refuses (length l.buffer) (take l.filled l.buffer))
    × Advances R.unread R.failures R.same l.initial.self l.self

abbrev pub decreases-loop-filled : goal.decreases-loop-filled
decreases-loop-filled g l = length l.initial.buffer - l.filled
