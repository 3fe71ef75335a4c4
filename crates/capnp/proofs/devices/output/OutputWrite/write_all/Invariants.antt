-- What is done of the chunk follows what was written before.
use Rattle.std.proofs.Common.{◌≡◌, ◌-◌, ◌≤◌, length, take}
use Rattle.std.specs.Io.KnownBytes.{Appends}
use Rattle.capnp.specs.Prelude.{taken_so_far}
use Rattle.capnp.proofs.devices.output.OutputWrite.write_all.Given as goal

abbrev pub invariant-loop-done : goal.invariant-loop-done
invariant-loop-done g l = (l.done ≤ length l.chunk)
    × (l.self.failures ≡ l.initial.self.failures)
    × Appends (taken_so_far g.W.Write.contents l.initial.self) (taken_so_far g.W.Write.contents l.self) (take l.done l.chunk)

abbrev pub decreases-loop-done : goal.decreases-loop-done
decreases-loop-done g l = length l.chunk - l.done
