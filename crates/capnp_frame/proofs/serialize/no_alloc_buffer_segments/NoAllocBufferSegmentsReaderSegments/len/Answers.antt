-- As many as the table declares.
use Rattle.std.proofs.Common.{◌∙◌, length, sym, ap}
use Rattle.capnp_frame.proofs.encodings.DeclaredMessageIsFrontFrameLemmas.{length-declared_segments}
use Rattle.capnp_frame.proofs.serialize.no_alloc_buffer_segments.NoAllocBufferSegmentsReaderSegments.len.Goals as goal

pub returns : goal.returns
returns g c = sym (length-declared_segments c.self.inside.segments_count (g.T.AsBytes.bytes c.self.inside.buffer)) ∙ ap (λ h. length h.segments) c.self.view_is
