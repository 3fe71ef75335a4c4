-- An interrupted write adds nothing.
use Rattle.std.specs.Io.KnownBytes.{Keeps}
use Rattle.capnp.proofs.devices.retried.RetriedWrite.write.Given as goal

abbrev pub invariant-loop : goal.invariant-loop
invariant-loop g l = Keeps (g.W.Write.contents l.initial.self.device) (g.W.Write.contents l.self.device)
