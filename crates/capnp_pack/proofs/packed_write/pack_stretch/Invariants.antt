-- The words so far are packed after what the buffer had.
use Rattle.std.proofs.Common.{◌-◌, length}
use Rattle.capnp_pack.specs.Prelude.{PacksFront}
use Rattle.capnp_pack.proofs.packed_write.pack_stretch.Given as goal

abbrev pub invariant-loop-end : goal.invariant-loop-end
invariant-loop-end l = PacksFront l.words l.initial.bytes l.used l.bytes l.count l.end

abbrev pub decreases-loop-end : goal.decreases-loop-end
decreases-loop-end l = length l.words - l.count
