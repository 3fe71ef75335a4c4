-- What is filled is the groups so far.
use Rattle.std.proofs.Common.{◌≡◌, ◌-◌, length}
use Rattle.capnp_pack.specs.Prelude.{Unpacked}
use Rattle.capnp_pack.proofs.single_word.unpack_single_words.Given as goal

abbrev pub invariant-loop-used : goal.invariant-loop-used
invariant-loop-used l = (length l.buffer ≡ length l.initial.buffer) × Unpacked l.shown l.buffer l.used l.filled

abbrev pub decreases-loop-used : goal.decreases-loop-used
decreases-loop-used l = length l.initial.buffer - l.filled
