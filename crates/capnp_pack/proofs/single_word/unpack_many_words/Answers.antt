-- Groups after groups.
use Rattle.std.proofs.Common.{rules, arith, ◌∙◌}
use Rattle.capnp_pack.proofs.unpacking.SingleWordGroupsExtendUnpackedLemmas.{unpacked_on}
use Rattle.capnp_pack.proofs.single_word.unpack_many_words.Goals as goal

pub loop-filled-preserved : goal.loop-filled-preserved
loop-filled-preserved c =
    let next = unpacked_on c.loop-filled.used c.loop-filled.filled c.in-Some.group 8 c.args.shown.now c.loop-filled.buffer c.unpack_single_word.new.buffer
    (search rules) c.loop-filled.invariant.1 c.in-Some.ensures.group in
    (next.0 ∙ c.loop-filled.invariant.0, next.1, omega (arith, c.loop-filled.invariant.2, c.in-Some.ensures.few))
