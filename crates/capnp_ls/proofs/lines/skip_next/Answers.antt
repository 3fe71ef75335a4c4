-- The rules of a format, in which the message is skipped.
use Rattle.capnp_ls.proofs.lines.skip_next.Goals as goal

pub returns-in-Framed : goal.returns-in-Framed
returns-in-Framed g c = rw c.in-Framed.is c.try_skip_message.ensures

pub returns-in-Packed : goal.returns-in-Packed
returns-in-Packed g c = rw c.in-Packed.is c.try_skip_message-in-Packed.ensures
