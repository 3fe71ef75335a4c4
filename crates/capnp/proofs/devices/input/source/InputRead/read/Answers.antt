-- What was read is a part of what was asked.
use Rattle.capnp.proofs.DeviceCallMovesFirstBytesLemmas.{part_given, none_at_end}
use Rattle.capnp.proofs.devices.input.source.InputRead.read.Goals as goal

pub returns-in-Ok-clause-taken : goal.returns-in-Ok-clause-taken
returns-in-Ok-clause-taken g c = part_given c.args.self.now.known _ _ c.in-Ok.count c.read.new.buf c.in-Ok.ensures.bytes.0

pub returns-in-Ok-clause-end : goal.returns-in-Ok-clause-end
returns-in-Ok-clause-end g c = none_at_end c.args.self.now.known _ _ c.in-Ok.count c.read.new.buf c.in-Ok.ensures.bound.0 c.in-Ok.ensures.bytes.0 c.in-Ok.ensures.bytes.1
