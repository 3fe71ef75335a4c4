-- The last of some words is the one before their end.
use Rattle.std.proofs.Common.{◌+◌, ◌-◌, arith}
use Rattle.capnp_layout.specs.Prelude.{words_of}
use Rattle.capnp_layout.proofs.words.WordsOfBytesLemmas.{length-words_of}
use Rattle.capnp_wire.proofs.forms.SectionTrimmedByLastWordLemmas.{stretch_ends_full}
use Rattle.capnp_wire.proofs.layout.canonical_rules.ends_full.Goals as goal

pub returns-else-count-eq0 : goal.returns-else-count-eq0
returns-else-count-eq0 c =
    let words = words_of c.args.segment.now in
    let e = stretch_ends_full words c.args.start c.args.count (c.args.start + c.args.count - 1) (omega (arith, length-words_of c.args.segment.now)) (omega arith) (omega arith) in
    (λ t. e.1 (c.is_set.ensures.0 t), λ full. c.is_set.ensures.1 (e.0 full))
