-- There is room for all that is asked for, or for each group.
use Rattle.std.proofs.Common.{rules, ◌≡◌, ◌∙◌, length}
use Rattle.capnp_pack.proofs.unpacking.SkipOutcomeIsRequestOutcomeLemmas.{skip_room, group_skipped, over_skipped}
use Rattle.capnp_pack.proofs.skip.skip_group.Goals as goal

pub returns-clause-takes : goal.returns-clause-takes
returns-clause-takes g c =
    let room : length c.read_group.new.buffer ≡ c.min-room.result = search rules in
    group_skipped g.R.Read _ _ c.args.most c.read_group.new.buffer c.read_group.result (skip_room c.args.most _ (room ∙ c.min-room.ensures)) c.read_group.ensures.takes

pub returns-clause-overrun : goal.returns-clause-overrun
returns-clause-overrun g c =
    let room : length c.read_group.new.buffer ≡ c.min-room.result = search rules in
    over_skipped c.args.most (length c.read_group.new.buffer) _ _ c.read_group.result (skip_room c.args.most _ (room ∙ c.min-room.ensures))
    c.read_group.ensures.takes.errors c.read_group.ensures.overrun
