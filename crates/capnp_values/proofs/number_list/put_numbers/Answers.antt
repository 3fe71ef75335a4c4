-- Each word is put after those before it.
use Rattle.std.proofs.Common.{◌≡◌, ◌+◌, ◌/◌, ◌<◌, ◌^◌, ◌∙◌, ℕ, length, map, refl, ap, arith}
use Rattle.capnp_layout.specs.Prelude.{number_of, words_of, width, words_for}
use Rattle.capnp_layout.proofs.words.WordsOfBytesLemmas.{length-words_of}
use Rattle.capnp_values.proofs.numbers.NumberWordWriteLemmas.{parted, full_put, last_put, numbers_end}
use Rattle.capnp_values.proofs.number_list.put_numbers.Goals as goal

pub put_word-requires : goal.put_word-requires
put_word-requires g c =
    let width_is : c.bits.result ≡ width g.N.PrimitiveElement.code = c.bits.ensures.bits ∙ ap width c.size-size.ensures in
    let code_is : c.code.result ≡ g.N.PrimitiveElement.code = c.code.ensures.code ∙ c.size-size.ensures in
    let p = parted g.N.PrimitiveElement.code (64 / c.bits.result) (length c.args.items.now) (omega (arith, c.if-code-eq0.false, code_is)) (omega (arith, code_is, c.code.ensures.few)) (ap (λ (k : ℕ). 64 / k) width_is) in
    omega (arith, p.full, c.loop-index-test.true, c.requires.room, c.loop-index.auto.block, length-words_of c.loop-index.block)

pub loop-index-preserved : goal.loop-index-preserved
loop-index-preserved g c =
    let width_is : c.bits.result ≡ width g.N.PrimitiveElement.code = c.bits.ensures.bits ∙ ap width c.size-size.ensures in
    let code_is : c.code.result ≡ g.N.PrimitiveElement.code = c.code.ensures.code ∙ c.size-size.ensures in
    full_put g.N.PrimitiveElement.bits_of g.N.PrimitiveElement.code (64 / c.bits.result) _ c.loop-index.index c.word_of_numbers-word.result c.args.items.now _ _ (words_of c.args.block.now)
    (omega (arith, c.if-code-eq0.false, code_is)) (omega (arith, code_is, c.code.ensures.few)) (ap (λ (k : ℕ). 64 / k) width_is) refl c.requires.fit c.loop-index-test.true c.word_of_numbers-word.ensures
    (omega (arith, c.requires.room, length-words_of c.args.block.now)) c.put_word.ensures.words c.loop-index.invariant

pub put_word-requires-then-full-block : goal.put_word-requires-then-full-block
put_word-requires-then-full-block g c = omega (arith, c.if-full-block.true, c.loop-index.auto.block, length-words_of c.loop-index.block)

pub returns-then-full-block : goal.returns-then-full-block
returns-then-full-block g c =
    let n : ℕ = length c.args.items.now in
    let each : ℕ = 64 / c.bits.result in
    let x : ℕ = number_of (2 ^ width g.N.PrimitiveElement.code) (map g.N.PrimitiveElement.bits_of c.args.items.now) in
    let width_is : c.bits.result ≡ width g.N.PrimitiveElement.code = c.bits.ensures.bits ∙ ap width c.size-size.ensures in
    let code_is : c.code.result ≡ g.N.PrimitiveElement.code = c.code.ensures.code ∙ c.size-size.ensures in
    let some : 0 < g.N.PrimitiveElement.code = omega (arith, c.if-code-eq0.false, code_is) in
    let known : g.N.PrimitiveElement.code < 6 = omega (arith, code_is, c.code.ensures.few) in
    let each_is : 64 / c.bits.result ≡ 64 / width g.N.PrimitiveElement.code = ap (λ (k : ℕ). 64 / k) width_is in
    let p = parted g.N.PrimitiveElement.code (64 / c.bits.result) (length c.args.items.now) some known each_is in
    let old_is : length (words_of c.args.block.now) ≡ words_for (length c.args.items.now) (width g.N.PrimitiveElement.code) = omega (arith, c.requires.room, length-words_of c.args.block.now) in
    let at : c.loop-index.index ≡ length c.args.items.now / (64 / c.bits.result) = omega (arith, c.loop-index-test.false, c.loop-index.auto.index-end) in
    numbers_end x _ (n / each + 1) c.put_word-then-full-block.new.block (words_of c.args.block.now) old_is (omega (arith, p.words))
    (last_put g.N.PrimitiveElement.bits_of g.N.PrimitiveElement.code (64 / c.bits.result) _ c.word_of_numbers-last.result c.args.items.now _ _ (words_of c.args.block.now) some known each_is refl c.requires.fit
    (omega (arith, c.if-full-block.true, c.loop-index.auto.block, c.requires.room)) c.word_of_numbers-last.ensures old_is c.put_word-then-full-block.ensures.words (rw at at c.loop-index.invariant))

pub returns-else-full-block : goal.returns-else-full-block
returns-else-full-block g c =
    numbers_end (number_of (2 ^ width g.N.PrimitiveElement.code) (map g.N.PrimitiveElement.bits_of c.args.items.now)) _ c.loop-index.index c.loop-index.block (words_of c.args.block.now)
    (omega (arith, c.requires.room, length-words_of c.args.block.now)) (omega (arith, c.if-full-block.false, c.loop-index-test.false, c.loop-index.auto.block, c.requires.room)) c.loop-index.invariant
