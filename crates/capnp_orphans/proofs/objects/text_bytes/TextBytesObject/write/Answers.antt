-- A text is written at its start.
use Rattle.std.proofs.Common.{◌/◌, ◌-◌, ◌++◌, ◌∷◌, [], length, false, arith}
use Rattle.capnp_layout.proofs.words.WordsOfPaddedByteListLemmas.{long_end}
use Rattle.capnp_wire.proofs.layouts.NullAndNumbersWrittenLemmas.{numbers_total}
use Rattle.capnp_orphans.proofs.WrittenTextIsOrphanLemmas.{text_written}
use Rattle.capnp_orphans.proofs.objects.text_bytes.TextBytesObject.write.Goals as goal

pub returns : goal.returns
returns c body start_is =
    let takes = c.requires.takes in
    let long = numbers_total false 2 (c.args.self.now.bytes.now ++ 0 ∷ []) takes.trees takes.tree_is.1 in
    text_written body c.args.self.now.bytes.now c.put_text.new.block c.args.start (length c.args.block.now / 8) (length c.args.block.now - length c.args.self.now.bytes.now) c.list_word.result start_is
    takes c.requires.few c.put_text.ensures.bytes (omega (arith, long, takes.words_are, long_end c.args.self.now.bytes.now, c.requires.whole)) c.put_text.ensures.put c.list_word.ensures
