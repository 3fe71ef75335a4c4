-- Groups after groups.
use Rattle.std.proofs.Common.{rules, ◌∙◌}
use Rattle.capnp_pack.proofs.unpacking.SingleWordGroupsExtendUnpackedLemmas.{unpacked_on}
use Rattle.capnp_pack.proofs.single_word.unpack_single_words.Goals as goal

pub loop-used-preserved : goal.loop-used-preserved
loop-used-preserved c =
    let next = unpacked_on c.loop-used.used c.loop-used.filled c.in-Some.group 8 c.args.shown.now c.loop-used.buffer c.unpack_single_word.new.buffer
    (search rules) c.loop-used.invariant.1 c.in-Some.ensures.group in
    (next.0 ∙ c.loop-used.invariant.0, next.1)
