-- As many as there are parts.
use Rattle.std.proofs.Common.{drop, sym, ap, ◌∙◌, length}
use Rattle.capnp_frame.proofs.tables.PartsCutAtRunningSumsLemmas.{length-cut}
use Rattle.capnp_frame.proofs.serialize.buffer_segments.BufferSegmentsReaderSegments.len.Goals as goal

pub returns : goal.returns
returns g c = c.len.ensures
    ∙ sym (length-cut c.self.inside.segment_indices (drop c.self.inside.table_len (g.T.AsBytes.bytes c.self.inside.buffer)))
    ∙ ap (λ reader. length reader.segments) c.self.view_is
