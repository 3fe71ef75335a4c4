-- The tag and what follows it.
use Rattle.std.proofs.Common.{rules, ◌≡◌, ◌∷◌}
use Rattle.capnp_pack.proofs.unpacking.ShownGroupsUnpackToBufferLemmas.{group_unpacked}
use Rattle.capnp_pack.proofs.unpack.unpack_run.Goals as goal

pub returns-clause-group : goal.returns-clause-group
returns-clause-group c =
    let parts : c.args.shown.now ≡ c.in_ok-tag.tag.now ∷ c.in_ok-tag.following.now = search rules in
    group_unpacked c.in_ok-tag.tag.now c.in_ok-rest.rest.used c.in_ok-rest.rest.filled c.args.shown.now c.in_ok-tag.following.now _ parts c.in_ok-rest.ensures
