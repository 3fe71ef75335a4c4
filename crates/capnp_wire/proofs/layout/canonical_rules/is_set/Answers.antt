-- A word that is not there counts as zero.
use Rattle.capnp_layout.specs.Prelude.{words_of}
use Rattle.capnp_wire.proofs.forms.SectionTrimmedByLastWordLemmas.{or_zero}
use Rattle.std.proofs.Common.{sym}
use Rattle.capnp_wire.proofs.layout.canonical_rules.is_set.Goals as goal

pub returns-in-None : goal.returns-in-None
returns-in-None c = (λ never. absurd (cc), λ set. absurd (set (or_zero (words_of c.args.segment.now) c.args.index (sym c.in-None.ensures.value))))
