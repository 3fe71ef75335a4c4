-- The last word of a list is put again, without the bits after its elements.
use Rattle.std.proofs.Common.{◌≡◌, ℕ, ◌*◌, ◌%◌, ◌<◌, sym, ◌∙◌, ap, arith}
use Rattle.capnp_layout.specs.Prelude.{words_of, code_of, width, words_for, put}
use Rattle.capnp_layout.proofs.words.WordsOfBytesLemmas.{length-words_of}
use Rattle.capnp_layout.proofs.objects.CopiedListLastWordMaskedLemmas.{no_bits_left, part_word, shifted, any_below}
use Rattle.capnp_layout.proofs.block.put_elements.Goals as goal

pub returns-then-following-ne0-clause-words : goal.returns-then-following-ne0-clause-words
returns-then-following-ne0-clause-words g c =
    let list = c.args.list.now in
    let words = words_of list.segment.now in
    let code : ℕ = code_of list.size in
    let bits : list.bits ≡ list.count * width code = list.bits_are in
    let many : c.words-words.result ≡ words_for list.count (width code) = c.words-words.ensures in
    let some : 0 < list.count * width code % 64 = rw (← bits) (omega arith) in
    let put_last = rw (bits, shifted (list.count * width code % 64) (omega arith), c.put_words.ensures.words, many) at c.put_word.ensures.words in
    let there = rw many at c.word_at-last.ensures in
    put_last
    ∙ part_word words list.start.word code list.count c.word_at-last.result (any_below words c.words_fit.ensures.words)
    (omega (arith, c.requires.there, length-words_of list.segment.now)) some there
    c.args.at (g.T.BlockItem.as_words c.args.block.now) (omega (arith, c.requires.room))

pub returns-else-following-ne0-clause-words : goal.returns-else-following-ne0-clause-words
returns-else-following-ne0-clause-words g c =
    let list = c.args.list.now in
    let words = words_of list.segment.now in
    let code : ℕ = code_of list.size in
    let none : list.count * width code % 64 ≡ 0 = rw (← list.bits_are) (omega arith) in
    let put_all = rw c.words-words.ensures at c.put_words.ensures.words in
    put_all ∙ ap (λ l. put c.args.at l (g.T.BlockItem.as_words c.args.block.now)) (sym (no_bits_left words list.start.word code list.count (any_below words c.words_fit.ensures.words)
    (omega (arith, c.requires.there, length-words_of list.segment.now)) none))
