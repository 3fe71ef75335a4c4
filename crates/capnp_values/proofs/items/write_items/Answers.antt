-- Each value is written after those before it.
use Rattle.std.proofs.Common.{◌+◌, ℕ, sym, subst, arith}
use Rattle.capnp_layout.proofs.words.WordsOfBytesLemmas.{length-words_of}
use Rattle.capnp_values.proofs.lists.ItemWriteLemmas.{ItemsWritten, writing_begins, item_room, writing_goes_on, writing_ends}
use Rattle.capnp_values.proofs.values.LazyValueAsDeclaredLemmas.{room_made}
use Rattle.capnp_values.proofs.items.write_items.Goals as goal

pub loop-index-init : goal.loop-index-init
loop-index-init g c =
    let h = g.S.ValueSource.has_tree c.args.items.now in
    let values = g.S.ValueSource.items c.args.items.now in
    subst (λ (k : ℕ). ItemsWritten h c.args.canonical values c.args.first 0 (c.args.first + k) c.args.block.now c.args.block.now) (sym c.len-count.ensures)
    (writing_begins h c.args.canonical values c.args.first c.args.block.now c.requires.room c.requires.free)

pub write-copied-requires-clause-value : goal.write-copied-requires-clause-value
write-copied-requires-clause-value g c =
    room_made c.get-item.ensures.2 c.args.canonical c.loop-index.next _ (
    item_room (g.S.ValueSource.has_tree c.args.items.now) c.args.canonical (g.S.ValueSource.items c.args.items.now) c.args.first c.loop-index.index c.loop-index.next c.get-item.ensures.0 c.args.block.now c.loop-index.block (omega (arith, c.loop-index-test.true, c.len-count.ensures))
    c.get-item.ensures.1 c.loop-index.invariant)

pub write-copied-requires-clause-free : goal.write-copied-requires-clause-free
write-copied-requires-clause-free g c = c.loop-index.invariant.free_from

pub write-copied-requires-clause-following : goal.write-copied-requires-clause-following
write-copied-requires-clause-following g c = omega (arith, c.loop-index.invariant.after, c.loop-index-test.true, c.len-count.ensures)

pub put_word-requires : goal.put_word-requires
put_word-requires g c =
    let r = item_room (g.S.ValueSource.has_tree c.args.items.now) c.args.canonical (g.S.ValueSource.items c.args.items.now) c.args.first c.loop-index.index c.loop-index.next c.get-item.ensures.0 c.args.block.now c.loop-index.block (omega (arith, c.loop-index-test.true, c.len-count.ensures))
    c.get-item.ensures.1 c.loop-index.invariant in
    omega (arith, c.loop-index.invariant.after, c.loop-index-test.true, c.len-count.ensures, r.fits, c.write-copied.ensures.len, length-words_of c.write-copied.new.block, length-words_of c.loop-index.block)

pub loop-index-preserved : goal.loop-index-preserved
loop-index-preserved g c =
    writing_goes_on (g.S.ValueSource.has_tree c.args.items.now) c.args.canonical (g.S.ValueSource.items c.args.items.now) c.args.first c.loop-index.index c.loop-index.next c.get-item.ensures.0 c.args.block.now c.loop-index.block
    c.write-copied.new.block c.put_word.new.block c.write-copied.result (omega (arith, c.loop-index-test.true, c.len-count.ensures)) c.get-item.ensures.1
    (λ t is. record { mid_long = c.write-copied.ensures.len; new_long = c.put_word.ensures.len; own = c.write-copied.ensures.written t (c.get-item.ensures.2.trees_are t is); put_is = c.put_word.ensures.words })
    c.loop-index.invariant

pub returns-clause-written : goal.returns-clause-written
returns-clause-written g c =
    writing_ends (g.S.ValueSource.has_tree c.args.items.now) c.args.canonical (g.S.ValueSource.items c.args.items.now) c.args.first c.loop-index.index c.loop-index.next c.args.block.now c.loop-index.block (omega arith) c.loop-index.invariant

pub returns-clause-len : goal.returns-clause-len
returns-clause-len g c = c.loop-index.invariant.long
