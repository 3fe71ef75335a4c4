-- The groups that are shown are at the front of what is unread.
use Rattle.std.proofs.Common.{rules, arith, ◌<◌}
use Rattle.capnp_pack.proofs.unpacking.SkipOutcomeIsRequestOutcomeLemmas.{passes_taken, passes_some}
use Rattle.capnp_pack.proofs.skip.skip_groups.Goals as goal

pub returns-clause-takes : goal.returns-clause-takes
returns-clause-takes g c =
    let passed = c.pass_shown-passed.result in
    let is = c.pass_shown-passed.ensures in
    let some : 0 < passed.filled = omega arith in
    let more = passes_some c.args.most passed.used passed.filled c.in_ok-fill_buf.field-0.now _ c.in_ok-fill_buf.ensures.front is some in
    let groups = passes_taken c.args.most passed.used passed.filled c.in_ok-fill_buf.field-0.now _ _ _ c.in_ok-fill_buf.ensures.front (search rules) c.consume.ensures.taken is in
    record { found = (some, is.filled_within, is.whole, more, groups); none = tt; errors = tt; at_end = tt; asked = search rules }
