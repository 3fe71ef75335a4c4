-- A word with some marked bytes.
use Rattle.std.proofs.Common.{rules, arith, length, ◌≡◌, ◌<◌}
use Rattle.std.proofs.lemmas.List.{take_at}
use Rattle.capnp_pack.proofs.unpacking.ShownGroupsUnpackToBufferLemmas.{tagged_after}
use Rattle.capnp_pack.proofs.unpack.unpack_short_after.Goals as goal

pub unpack_short_word-used-requires-clause-long : goal.unpack_short_word-used-requires-clause-long
unpack_short_word-used-requires-clause-long c =
    let some : 0 < c.args.tag = omega arith in
    let few : c.args.tag < 255 = omega arith in
    omega (arith, c.group_bytes.ensures.tagged some few)

pub returns : goal.returns
returns c =
    let some : 0 < c.args.tag = omega arith in
    let few : c.args.tag < 255 = omega arith in
    let word : length c.unpack_short_word-used.new.word ≡ 8 = search rules in
    tagged_after c.args.tag _ c.args.following.now c.unpack_short_word-used.new.word _ some few word
    (omega (arith, c.unpack_short_word-used.ensures.count, c.group_bytes.ensures.tagged some few)) (search rules)
    (take_at c.unpack_short_word-used.new.word _ 8 word) c.unpack_short_word-used.ensures.taken.marked
