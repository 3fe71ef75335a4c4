-- A write there is in the parts.
use Rattle.std.proofs.Common.{ap, sym, ◌∙◌, refl}
use Rattle.std.specs.List.{concat}
use Rattle.capnp_frame.proofs.tables.PartsCutAtRunningSumsLemmas.{concat-cut}
use Rattle.capnp_frame.proofs.encodings.MessageFoundByRequestsLemmas.{overwritten_parts}
use Rattle.capnp_frame.proofs.serialize.owned_segments.OwnedSegments.as_bytes_mut.Goals as goal

pub returns : goal.returns
returns c =
    let lens = c.self.inside.segment_indices in (
      (refl, λ w. overwritten_parts lens c.self.inside.bytes.items c.args.self.now c.self.inside.bytes.len w c.self.invariant c.self.inside.bytes.ok.0 c.self.view_is),
      record { writes_back = tt; value = c.deref_mut.ensures.value ∙ sym (concat-cut lens c.self.inside.bytes.items c.self.invariant) ∙ ap concat c.self.view_is },
    )
