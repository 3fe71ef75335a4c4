-- No more data words are kept than there are.
use Rattle.std.proofs.Common.{arith}
use Rattle.capnp_layout.proofs.words.TrailingZeroRemovalIdempotenceLemmas.{length-cut_zeros}
use Rattle.capnp_values.proofs.sections.kept_data.Goals as goal

pub returns-then-canonical-clause-bound : goal.returns-then-canonical-clause-bound
returns-then-canonical-clause-bound c = omega (arith, c.used.ensures, length-cut_zeros c.args.words.now)
