-- There is a range for each length.
use Rattle.std.proofs.Common.{rules, ◌≡◌, ◌∙◌, length, sym, ap}
use Rattle.std.proofs.lemmas.List.{length-map}
use Rattle.capnp_frame.specs.Prelude.{range_len}
use Rattle.capnp_frame.proofs.serialize.segment_lengths.SegmentLengthsBuilder.segments_count.Goals as goal

pub returns : goal.returns
returns c =
    let long : length c.self.inside.segment_indices.items ≡ length c.args.self.now =
    sym (length-map c.self.inside.segment_indices.items range_len) ∙ ap length c.self.view_is in
    search rules
