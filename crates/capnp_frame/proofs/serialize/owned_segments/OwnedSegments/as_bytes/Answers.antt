-- The parts cover all bytes.
use Rattle.std.proofs.Common.{ap, sym, ◌∙◌}
use Rattle.std.specs.List.{concat}
use Rattle.capnp_frame.proofs.tables.PartsCutAtRunningSumsLemmas.{concat-cut}
use Rattle.capnp_frame.proofs.serialize.owned_segments.OwnedSegments.as_bytes.Goals as goal

pub returns : goal.returns
returns c = c.deref.ensures.value ∙ sym (concat-cut c.self.inside.segment_indices c.self.inside.bytes.items c.self.invariant) ∙ ap concat c.self.view_is
