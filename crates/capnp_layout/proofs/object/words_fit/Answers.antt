-- A number of eight bytes is below 2 ^ 64.
use Rattle.std.proofs.Common.{arith}
use Rattle.capnp_layout.proofs.objects.ByteListElementLemmas.{all_words_below}
use Rattle.capnp_layout.proofs.object.words_fit.Goals as goal

pub returns-clause-words : goal.returns-clause-words
returns-clause-words c = all_words_below c.args.segment.now (λ i. omega (arith, c.type_inv.segment i))
