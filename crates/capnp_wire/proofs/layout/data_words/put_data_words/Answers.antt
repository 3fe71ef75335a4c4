-- Each kind of object puts its own words.
use Rattle.std.proofs.Common.{◌/◌, length}
use Rattle.capnp_layout.proofs.objects.CopiedDataWithinSegmentLemmas.{struct_there}
use Rattle.capnp_wire.proofs.layout.data_words.put_data_words.Goals as goal

pub put_words-requires-clause-there : goal.put_words-requires-clause-there
put_words-requires-clause-there g c =
    struct_there c.args.object.now.start.word (length c.args.object.now.segment.now / 8) c.args.object.now.body c.args.copied c.in-Struct.size c.in-Struct.is c.requires.narrower c.requires.room
