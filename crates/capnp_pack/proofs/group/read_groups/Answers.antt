-- The groups that are shown are a part of the result of each request that they fit into.
use Rattle.std.proofs.Common.{rules, arith, ◌<◌}
use Rattle.capnp_pack.proofs.unpacking.TakenGroupsUnpackedByteCountLemmas.{shown_taken}
use Rattle.capnp_pack.proofs.unpacking.ShownGroupsUnpackToBufferLemmas.{shown_takes, shown_some}
use Rattle.capnp_pack.proofs.group.read_groups.Goals as goal

pub returns-clause-takes : goal.returns-clause-takes
returns-clause-takes g c =
    let taken = c.unpack_shown-taken.result in
    let buffer = c.unpack_shown-taken.new.buffer in
    let is = c.unpack_shown-taken.ensures in
    let some : 0 < taken.filled = omega arith in
    let shown = shown_some taken.used taken.filled c.in_ok-fill_buf.field-0.now buffer _ c.in_ok-fill_buf.ensures.front is some in
    let takes = shown_takes taken.used taken.filled c.in_ok-fill_buf.field-0.now buffer _ _ _ c.in_ok-fill_buf.ensures.front (search rules) c.consume.ensures.taken is in
    let groups = shown_taken taken.used taken.filled c.in_ok-fill_buf.field-0.now buffer _ _ _ c.in_ok-fill_buf.ensures.front (search rules) c.consume.ensures.taken is in
    record { found = (some, is.filled_within, is.whole, shown, groups, takes); none = tt; errors = tt; at_end = tt; asked = search rules }
