-- What is filled is the groups so far.
use Rattle.std.proofs.Common.{◌≡◌, ◌-◌, length}
use Rattle.capnp_pack.specs.Prelude.{Unpacked}
use Rattle.capnp_pack.proofs.unpack.unpack_groups.Given as goal

abbrev pub invariant-loop-buffer : goal.invariant-loop-buffer
invariant-loop-buffer l = (length l.buffer ≡ length l.initial.buffer) × Unpacked l.shown l.buffer l.used l.filled

abbrev pub decreases-loop-buffer : goal.decreases-loop-buffer
decreases-loop-buffer l = length l.initial.buffer - l.filled
