-- The bytes of a list, and zeros after them, are its words.
use Rattle.std.proofs.Common.{arith, length}
use Rattle.capnp_layout.specs.Prelude.{words_for}
use Rattle.capnp_layout.proofs.words.WordsOfBytesLemmas.{length-words_of}
use Rattle.capnp_wire.proofs.layouts.NullAndNumbersWrittenLemmas.{numbers_copied}
use Rattle.capnp_wire.proofs.layout.value.write_bytes.Goals as goal

pub put_padded-requires-clause-room : goal.put_padded-requires-clause-room
put_padded-requires-clause-room c = omega (arith, c.requires.room, length-words_of c.args.block.now)

pub returns-clause-written : goal.returns-clause-written
returns-clause-written c =
    numbers_copied 2 c.args.bytes.now _ c.args.next _ _ _ (c.put_padded.ensures.words (words_for (length c.args.bytes.now) 8) (omega arith) c.requires.room) c.list_word.ensures (omega arith)
