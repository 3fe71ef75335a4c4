-- What is filled is the groups so far.
use Rattle.std.proofs.Common.{◌≡◌, ◌≤◌, ◌*◌, ◌-◌, length}
use Rattle.capnp_pack.specs.Prelude.{Unpacked}
use Rattle.capnp_pack.proofs.single_word.unpack_many_words.Given as goal

abbrev pub invariant-loop-filled : goal.invariant-loop-filled
invariant-loop-filled l = (length l.buffer ≡ length l.initial.buffer) × Unpacked l.shown l.buffer l.used l.filled × (8 * l.used ≤ 10 * l.filled)

abbrev pub decreases-loop-filled : goal.decreases-loop-filled
decreases-loop-filled l = length l.initial.buffer - l.filled
