-- The last word is packed after those before it.
use Rattle.std.proofs.Common.{rules, arith, ◌≡◌, ◌<◌, ◌+◌, ◌-◌, length, get_or, [], take, drop}
use Rattle.capnp_pack.proofs.packing.BufferedGroupLemmas.{buffered_more, last_word, no_word_left, tagged_group}
use Rattle.capnp_pack.proofs.packing.ChunkPackedGroupByGroupLemmas.{next_words, other_words}
use Rattle.capnp_pack.proofs.packed_write.pack_buffered.Goals as goal

pub returns-clause-packs : goal.returns-clause-packs
returns-clause-packs c =
    let words = c.args.words.now in
    let count = c.pack_stretch-packed.result.words in
    let tag = c.tag-tag.result in
    let others = take (length words - (count + 1)) (drop (count + 1) words) in
    let low : tag < 255 = omega arith in
    let is : length (get_or words count []) ≡ 8 = search rules in
    let reported = c.push_word.ensures in
    let size = c.group_bytes.ensures in
    let made = tagged_group (get_or words count []) others tag c.pack_stretch-packed.result.used c.push_word.result c.group_bytes.result _ _ is c.tag-tag.ensures low
    (λ none. last_word words count _ (omega arith)) reported.word reported.zero reported.used size.zero (λ some. size.tagged some low) in
    let before = c.pack_stretch-packed.ensures.packs in
    record {
      within = omega arith;
      fits = omega (arith, size.few);
      few = omega (arith, size.few, before.few);
      packed = buffered_more words count 0 (get_or words count []) others _ _ _ (next_words words count (omega arith)) (other_words words count) before.packed made;
    }

pub returns-clause-literal : goal.returns-clause-literal
returns-clause-literal c room = no_word_left c.args.words.now (c.pack_stretch-packed.result.words + 1) _ (omega arith)
