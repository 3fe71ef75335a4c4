-- An interrupted flush changes no known byte.
use Rattle.std.specs.Io.KnownBytes.{Keeps}
use Rattle.capnp.proofs.devices.retried.RetriedWrite.flush.Given as goal

abbrev pub invariant-loop : goal.invariant-loop
invariant-loop g l = Keeps (g.W.Write.contents l.initial.self.device) (g.W.Write.contents l.self.device)
