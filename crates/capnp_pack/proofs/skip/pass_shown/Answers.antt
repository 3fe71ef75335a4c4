-- Groups after groups.
use Rattle.capnp_pack.proofs.unpacking.SkippedGroupSizeLemmas.{none_passes, passes_on}
use Rattle.capnp_pack.proofs.skip.pass_shown.Goals as goal

pub loop-group-init : goal.loop-group-init
loop-group-init c = none_passes c.args.shown.now c.args.most

pub loop-group-preserved : goal.loop-group-preserved
loop-group-preserved c = passes_on c.loop-group.used c.loop-group.filled c.in-Some.group.used c.in-Some.group.filled c.args.most c.args.shown.now c.loop-group.invariant c.in-Some.ensures.group
