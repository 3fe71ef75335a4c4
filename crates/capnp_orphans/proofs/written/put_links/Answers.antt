-- Each pointer is put after those before it.
use Rattle.std.proofs.Common.{◌≡◌, ◌∙◌, ◌+◌, ℕ, Some, length, map, refl, sym, ap, arith}
use Rattle.std.specs.Prelude.{option_map}
use Rattle.std.proofs.lemmas.List.{length-map}
use Rattle.std.proofs.lemmas.Option.{slice_get-map, slice_get_read}
use Rattle.capnp_layout.specs.Prelude.{words_of}
use Rattle.capnp_layout.proofs.words.WordsOfBytesLemmas.{length-words_of}
use Rattle.capnp_values.proofs.structs.DataWordWriteLemmas.{next_put, all_put}
use Rattle.capnp_orphans.specs.Orphans.{link, links}
use Rattle.capnp_orphans.proofs.OrphanPointerReadLemmas.{links_get, length-orphan_links}
use Rattle.capnp_orphans.proofs.written.put_links.Goals as goal

pub put_word-requires : goal.put_word-requires
put_word-requires g c = omega (arith, c.loop-index.auto.block, c.requires.room, c.loop-index-test.true, length-words_of c.loop-index.block)

pub loop-index-preserved : goal.loop-index-preserved
loop-index-preserved g c =
    let i = c.loop-index.index in
    let item = c.index-items-index.result in
    let all : length (links (map g.W.OrphanWord.word c.args.items.now) c.args.place) ≡ length c.args.items.now = length-orphan_links (map g.W.OrphanWord.word c.args.items.now) c.args.place ∙ length-map c.args.items.now g.W.OrphanWord.word in
    let there = slice_get-map g.W.OrphanWord.word c.args.items.now c.loop-index.index
    ∙ ap (option_map g.W.OrphanWord.word) (slice_get_read c.args.items.now (length c.args.items.now) c.loop-index.index c.index-items-index.result refl c.loop-index-test.true c.index-items-index.is) in
    next_put i c.link.result (words_of c.loop-index.block) _ (words_of c.args.block.now) (links (map g.W.OrphanWord.word c.args.items.now) c.args.place)
    (links_get (map g.W.OrphanWord.word c.args.items.now) c.args.place c.loop-index.index (g.W.OrphanWord.word c.index-items-index.result) there
    ∙ ap (λ (n : ℕ). Some n) (sym (c.link.ensures ∙ ap (λ (n : ℕ). link n (c.args.place + c.loop-index.index)) c.word.ensures)))
    (omega (arith, all, c.loop-index-test.true)) (omega (arith, c.requires.room, all, length-words_of c.args.block.now)) c.put_word.ensures.words c.loop-index.invariant

pub returns : goal.returns
returns g c =
    let words = map g.W.OrphanWord.word c.args.items.now in
    let all : length (links (map g.W.OrphanWord.word c.args.items.now) c.args.place) ≡ length c.args.items.now = length-orphan_links (map g.W.OrphanWord.word c.args.items.now) c.args.place ∙ length-map c.args.items.now g.W.OrphanWord.word in
    all_put (links (map g.W.OrphanWord.word c.args.items.now) c.args.place) (words_of c.args.block.now) c.loop-index.block c.loop-index.index (omega (arith, c.requires.room, all, length-words_of c.args.block.now))
    (omega (arith, all, c.loop-index-test.false)) c.loop-index.invariant
