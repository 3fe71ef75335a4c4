-- Each word is put after those before it.
use Rattle.std.proofs.Common.{◌+◌, ◌-◌, ◌*◌, slice_index_or, refl, arith}
use Rattle.capnp_layout.specs.Prelude.{words_of}
use Rattle.capnp_layout.proofs.words.WordsOfBytesLemmas.{length-words_of}
use Rattle.capnp_values.proofs.structs.DataWordWriteLemmas.{word_put, there_is, all_put}
use Rattle.capnp_values.proofs.sections.put_words.Goals as goal

pub loop-index-preserved : goal.loop-index-preserved
loop-index-preserved c =
    let i = c.loop-index.index in
    word_put c.loop-index.index (8 * c.loop-index.index + 8 - 8 * c.loop-index.index) c.loop-index.block c.copy_from_slice.new.self (words_of c.args.block.now) c.args.words.now
    (slice_index_or c.args.words.now c.loop-index.index 0) (omega arith) (rw c.to_le_bytes.ensures at c.copy_from_slice.ensures.after)
    (omega (arith, c.copy_from_slice.auto.self)) (omega (arith, c.type_inv.words c.loop-index.index))
    (there_is c.args.words.now c.loop-index.index 0 (slice_index_or c.args.words.now c.loop-index.index 0) c.loop-index-test.true refl) c.loop-index-test.true
    (omega (arith, c.loop-index.auto.block, c.requires)) (omega (arith, c.requires, length-words_of c.args.block.now)) c.loop-index.invariant

pub returns : goal.returns
returns c =
    all_put c.args.words.now (words_of c.args.block.now) c.loop-index.block c.loop-index.index (omega (arith, c.requires, length-words_of c.args.block.now)) (omega arith) c.loop-index.invariant
