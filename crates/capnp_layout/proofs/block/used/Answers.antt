-- Words are left out from the end on while they are zero.
use Rattle.std.proofs.Common.{◌≡◌, ◌∙◌, arith}
use Rattle.capnp_layout.specs.Prelude.{words_of}
use Rattle.capnp_layout.proofs.words.WordsOfBytesLemmas.{length-words_of}
use Rattle.capnp_layout.proofs.words.LengthWithoutTrailingZerosLemmas.{last_used, last_unused}
use Rattle.capnp_layout.proofs.block.used.Goals as goal

pub returns-then-word_at-ne0 : goal.returns-then-word_at-ne0
returns-then-word_at-ne0 c =
    last_used (words_of c.args.segment.now) c.args.start c.words.left c.word_at.result (omega arith) (omega (arith, length-words_of c.args.segment.now, c.requires, c.words.invariant.1))
    c.word_at.ensures (omega arith)
    ∙ c.words.invariant.0

pub words-preserved : goal.words-preserved
words-preserved c =
    let none : c.word_at.result ≡ 0 = omega arith in
    let there = rw none at c.word_at.ensures in
    (last_unused (words_of c.args.segment.now) c.args.start c.words.left (omega arith) there ∙ c.words.invariant.0, omega (arith, c.words.invariant.1))
