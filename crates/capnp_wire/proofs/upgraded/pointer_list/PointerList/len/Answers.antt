-- A list of pointers has as many places as its count says.
use Rattle.std.proofs.Common.{sym}
use Rattle.capnp_wire.proofs.views.UpgradedListReadAsPointersLemmas.{length-stepped_places}
use Rattle.capnp_wire.proofs.upgraded.pointer_list.PointerList.len.Goals as goal

pub returns : goal.returns
returns g c = let self = c.args.self.now in sym (length-stepped_places self.first.segment self.first.word self.step self.count)
