-- One more word is copied.
use Rattle.std.proofs.Common.{length, arith}
use Rattle.capnp_wire.specs.Prelude.{struct_of}
use Rattle.capnp_orphans.proofs.PointerCopyWordsAndErrorLemmas.{next_word}
use Rattle.capnp_orphans.proofs.copied.copy_words.Goals as goal

pub loop-index-preserved : goal.loop-index-preserved
loop-index-preserved g c =
    next_word (struct_of g.R.ReaderSegments.segments c.args.fields.now).words c.loop-index.words (length c.args.words.now) c.loop-index.index c.word_at.result (omega (arith, c.loop-index-test.true, c.loop-index.auto.words)) c.loop-index-test.true c.loop-index.invariant c.word_at.ensures
