-- The table is accepted where a message is there, or is cut.
use Rattle.capnp_c.proofs.MessageSizeFromTableLemmas.{front_tells, cut_tells}
use Rattle.capnp_c.proofs.sizes.check_table.Goals as goal

pub returns-in-Ok : goal.returns-in-Ok
returns-in-Ok c =
    let found = c.in-Ok.ensures.reads.found in
    (front_tells c.args.options c.args.table.now found.0 c.in-Ok.field-0.segments found.1).accepted

pub returns-in-MessageEndsPrematurely : goal.returns-in-MessageEndsPrematurely
returns-in-MessageEndsPrematurely c =
    let met = rw c.in-MessageEndsPrematurely.is at c.in-Err.ensures.reads.errors in
    (cut_tells c.args.options c.args.table.now _ _ c.requires met).0

pub returns-in_default : goal.returns-in_default
returns-in_default c = (c.in-Err.ensures.reads.errors, λ words there is. c.in_default.not-MessageEndsPrematurely words there is)
