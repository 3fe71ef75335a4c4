-- What is copied is the front of what is shown.
use Rattle.std.proofs.Common.{rules, take}
use Rattle.capnp_pack.proofs.unpacking.LiteralRunReadLemmas.{shown_bytes_taken}
use Rattle.capnp_pack.proofs.group.copy_shown.Goals as goal

pub returns-clause-takes : goal.returns-clause-takes
returns-clause-takes g c =
    let found = shown_bytes_taken c.min-count.result c.in_ok-shown.shown.now (take c.min-count.result c.copy_front.new.buffer) _ _ _ c.in_ok-shown.ensures.front
    (search rules) c.consume.ensures.taken (search rules) c.copy_front.ensures in
    record { found = found; errors = tt; asked = search rules }
