-- The bytes of a text, and zeros after them, are its words.
use Rattle.std.proofs.Common.{◌+◌, ◌-◌, ◌++◌, ◌∷◌, [], ◌∙◌, List, ℕ, arith, ap, sym, length}
use Rattle.capnp_layout.specs.Prelude.{words_of, words_for, list_pointer, put}
use Rattle.capnp_layout.proofs.words.WordsOfBytesLemmas.{length-words_of}
use Rattle.capnp_layout.proofs.words.WordsOfPaddedByteListLemmas.{text_own, long_end}
use Rattle.capnp_wire.proofs.layouts.NullAndNumbersWrittenLemmas.{numbers_copied}
use Rattle.capnp_wire.proofs.layout.value.write_text.Goals as goal

pub put_padded-requires-clause-room : goal.put_padded-requires-clause-room
put_padded-requires-clause-room c = omega (arith, c.requires.room, length-words_of c.args.block.now)

pub returns-clause-written : goal.returns-clause-written
returns-clause-written c =
    let bytes : List ℕ = c.args.bytes.now in
    let long = long_end bytes in
    numbers_copied 2 (bytes ++ 0 ∷ []) _ c.args.next _ _ _
    (c.put_padded.ensures.words (words_for (length bytes + 1) 8) (omega arith) c.requires.room ∙ ap (λ (l : List ℕ). put c.args.next l (words_of c.args.block.now)) (text_own bytes))
    (c.list_word.ensures ∙ ap (λ (n : ℕ). list_pointer (c.args.next - c.args.following) 2 n) (sym long)) (omega (arith, long))
