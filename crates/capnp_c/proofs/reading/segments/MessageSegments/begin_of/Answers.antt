-- The object is in a segment of the message.
use Rattle.capnp_layout.specs.Prelude.{room_of}
use Rattle.capnp_c.proofs.in_place.SegmentByteRangeLemmas.{lies_among}
use Rattle.capnp_c.proofs.reading.segments.MessageSegments.begin_of.Goals as goal

pub following-rest-requires : goal.following-rest-requires
following-rest-requires c =
    let object = c.args.object.now in
    (lies_among c.args.self.now.begins.now c.args.self.now.count c.args.self.now.bytes.now object.segment.now object.start.segment object.start.word (room_of object.body)
    c.requires.content c.requires.room).below
