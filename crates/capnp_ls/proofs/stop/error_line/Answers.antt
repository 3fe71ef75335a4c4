-- The chunks are joined in the order of the line.
use Rattle.std.proofs.Common.{rules, string_bytes}
use Rattle.std.proofs.lemmas.Grind.{common_steps}
use Rattle.capnp_ls.proofs.stop.error_line.Goals as goal

pub returns : goal.returns
returns c = (string_bytes c.in_ok-reason.reason, search (rules, common_steps))
