-- What was written stays in front of the chunk.
use Rattle.std.proofs.Common.{rules, refl, arith, le_refl}
use Rattle.std.proofs.lemmas.Grind.{common_steps}
use Rattle.capnp_c.proofs.provided_buffer.ProvidedBufferWrite.write_all.Goals as goal

pub returns-clause-grows : goal.returns-clause-grows
returns-clause-grows c = record { front = (c.args.chunk.now, search (rules, common_steps)); counted = le_refl 0; same_sink = (refl, grind (arith, common_steps)) }
