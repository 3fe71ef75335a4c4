-- As many as are said to be there.
use Rattle.std.proofs.Common.{sym}
use Rattle.capnp_c.proofs.in_place.SegmentByteRangeLemmas.{length-segments_from}
use Rattle.capnp_c.proofs.reading.segments.MessageSegmentsReaderSegments.len.Goals as goal

pub returns : goal.returns
returns c = sym (length-segments_from c.args.self.now.begins.now c.args.self.now.count c.args.self.now.bytes.now)
