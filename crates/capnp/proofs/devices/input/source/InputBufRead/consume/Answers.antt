-- What is consumed leaves a tail.
use Rattle.std.proofs.Common.{rules, le_refl}
use Rattle.capnp.proofs.DeviceCallMovesFirstBytesLemmas.{tail_left}
use Rattle.capnp.proofs.devices.input.source.InputBufRead.consume.Goals as goal

pub returns-clause-advances : goal.returns-clause-advances
returns-clause-advances g c = record {
  tail = tail_left c.args.self.now.known _ _ c.args.amount (search rules);
  counted = le_refl _;
  same_source = tt;
}
