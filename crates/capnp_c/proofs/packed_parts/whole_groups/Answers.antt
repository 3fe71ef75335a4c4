-- Groups after groups.
use Rattle.std.proofs.Common.{ap, ◌-◌, length}
use Rattle.capnp_pack.proofs.unpacking.SkippedGroupSizeLemmas.{none_passes}
use Rattle.capnp_c.proofs.GroupsUnpackedInPartsLemmas.{cut_groups, one_more}
use Rattle.capnp_c.proofs.packed_parts.whole_groups.Goals as goal

pub loop-filled-init : goal.loop-filled-init
loop-filled-init c = none_passes c.args.packed.now c.args.most

pub loop-filled-preserved : goal.loop-filled-preserved
loop-filled-preserved c =
    one_more c.args.packed.now c.args.most c.loop-filled.used c.loop-filled.filled c.in_ok-group.group c.loop-filled.invariant c.in_ok-group.ensures c.if-group-shown.false

pub returns-then-group-shown : goal.returns-then-group-shown
returns-then-group-shown c =
    cut_groups c.args.packed.now c.args.most c.loop-filled.used c.loop-filled.filled _ c.in_ok-group.group c.loop-filled.invariant c.loop-filled-test.true
    c.in_ok-group.ensures c.if-group-shown.true (ap (λ k. k - (length c.args.packed.now - c.loop-filled.used)) c.max.ensures)
