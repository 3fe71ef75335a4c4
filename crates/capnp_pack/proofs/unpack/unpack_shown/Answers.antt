-- Where no group is shown, none is taken.
use Rattle.capnp_pack.proofs.unpacking.SingleWordGroupsExtendUnpackedLemmas.{no_group_unpacked}
use Rattle.capnp_pack.proofs.unpack.unpack_shown.Goals as goal

pub returns : goal.returns
returns c = no_group_unpacked c.args.shown.now c.args.buffer.now
