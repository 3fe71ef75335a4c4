-- Groups after groups.
use Rattle.std.proofs.Common.{rules, ◌∙◌}
use Rattle.capnp_pack.proofs.unpacking.SingleWordGroupsExtendUnpackedLemmas.{unpacked_on, unpacked_kept}
use Rattle.capnp_pack.proofs.unpack.unpack_short_groups.Goals as goal

pub loop-buffer-preserved : goal.loop-buffer-preserved
loop-buffer-preserved c =
    let next = unpacked_on c.loop-buffer.used c.loop-buffer.filled c.in-Some.group.used c.in-Some.group.filled c.args.shown.now c.loop-buffer.buffer c.unpack_short_group.new.buffer
    (search rules) c.loop-buffer.invariant.1 c.in-Some.ensures.group in
    (next.0 ∙ c.loop-buffer.invariant.0, next.1)

pub returns-in_default : goal.returns-in_default
returns-in_default c =
    unpacked_kept c.loop-buffer.used c.loop-buffer.filled c.args.shown.now c.loop-buffer.buffer c.unpack_short_group.new.buffer (search rules) c.loop-buffer.invariant.1
