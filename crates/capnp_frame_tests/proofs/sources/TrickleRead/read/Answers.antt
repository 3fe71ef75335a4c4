-- What was copied is the front of what was unread.
use Rattle.std.proofs.Common.{rules, take, le_refl}
use Rattle.std.proofs.lemmas.Grind.{common_steps}
use Rattle.capnp_frame_tests.proofs.sources.TrickleRead.read.Goals as goal

pub returns-clause-advances : goal.returns-clause-advances
returns-clause-advances c = record { tail = (take c.min-count.result c.args.self.now.bytes.now, search (rules, common_steps)); counted = le_refl 0; same_source = tt }
