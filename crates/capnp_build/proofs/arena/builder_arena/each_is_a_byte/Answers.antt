-- Bytes are numbers below 256.
use Rattle.std.proofs.Common.{arith}
use Rattle.capnp_build.proofs.arena.builder_arena.each_is_a_byte.Goals as goal

pub returns : goal.returns
returns c = λ i. omega (arith, c.type_inv.bytes i)
