-- One more group comes before the words that are left.
use Rattle.std.proofs.Common.{rules, arith, ◌≡◌, ◌<◌, ◌≤◌, ◌+◌, ◌-◌, ap, length, length-drop, get_or, [], take, drop}
use lib.Count.{ones, ones-le}
use Rattle.capnp_pack.proofs.packing.BufferedGroupLemmas.{buffered_more, tagged_group, ends_zeros, filled_by}
use Rattle.capnp_pack.proofs.packing.ChunkPackedGroupByGroupLemmas.{next_words, other_words}
use Rattle.capnp_pack.proofs.words.NonzeroByteTagLemmas.{mark_left, no_tag}
use Rattle.capnp_pack.proofs.packed_write.pack_stretch.Goals as goal

pub loop-end-preserved : goal.loop-end-preserved
loop-end-preserved c =
    let words = c.args.words.now in
    let count = c.loop-end.count in
    let tag = c.tag-tag.result in
    let others = take (length words - (count + 1)) (drop (count + 1) words) in
    let low : tag < 255 = omega arith in
    let is : length (get_or words count []) ≡ 8 = search rules in
    let reported = c.push_word-filled.ensures in
    let size = c.group_bytes-end.ensures in
    let made = tagged_group (get_or words count []) others tag c.loop-end.end c.push_word-filled.result c.group_bytes-end.result _ _ is c.tag-tag.ensures low
    (λ none. c.first_mark.ensures (mark_left tag c.first_mark.result none c.if-tag-first_mark-eq0.false))
    reported.word reported.zero reported.used size.zero (λ some. size.tagged some low) in
    record {
      within = omega arith;
      fits = omega (arith, size.few);
      few = omega (arith, size.few);
      packed = buffered_more words count 0 (get_or words count []) others _ _ _ (next_words words count (omega arith)) (other_words words count) c.loop-end.invariant.packed made;
    }

pub loop-end-preserved-then-tag-first_mark-eq0 : goal.loop-end-preserved-then-tag-first_mark-eq0
loop-end-preserved-then-tag-first_mark-eq0 c =
    let words = c.args.words.now in
    let count = c.loop-end.count in
    let tag = c.tag-tag.result in
    let zeros = c.zero_run-zeros.result in
    let others = take (length words - (count + 1)) (drop (count + 1) words) in
    let all = other_words words count in
    let none : tag ≡ 0 = no_tag tag c.first_mark.result c.if-tag-first_mark-eq0.true in
    let no : ones tag ≤ 0 = ones-le 0 tag (omega (arith, none)) in
    let is : length (get_or words count []) ≡ 8 = search rules in
    let (group, made, ends) = ends_zeros (get_or words count []) others zeros tag _ _ is c.tag-tag.ensures none c.zero_run-zeros.ensures c.push-end.ensures.added in
    let fill = filled_by (get_or words count []) tag _ _ c.tag-tag.ensures c.push_word-filled.ensures.word in
    record {
      within = omega (arith, ap length all, length-drop (count + 1) words, c.zero_run-zeros.ensures.within);
      fits = omega (arith, c.push-end.ensures.used, c.push_word-filled.ensures.room);
      few = omega (arith, c.push-end.ensures.used, c.push_word-filled.ensures.used, no);
      packed = buffered_more words count zeros (get_or words count []) others _ _ _ (next_words words count (omega arith)) all c.loop-end.invariant.packed (group, made, ends _ fill);
    }
