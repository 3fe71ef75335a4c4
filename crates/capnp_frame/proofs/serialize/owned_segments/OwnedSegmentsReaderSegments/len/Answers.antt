-- There is a length for each segment.
use Rattle.std.proofs.Common.{sym, ap, ◌∙◌, length}
use Rattle.capnp_frame.proofs.tables.PartsCutAtRunningSumsLemmas.{length-cut}
use Rattle.capnp_frame.proofs.serialize.owned_segments.OwnedSegmentsReaderSegments.len.Goals as goal

pub returns : goal.returns
returns c = c.len.ensures ∙ sym (length-cut c.self.inside.segment_indices c.self.inside.bytes.items) ∙ ap length c.self.view_is
