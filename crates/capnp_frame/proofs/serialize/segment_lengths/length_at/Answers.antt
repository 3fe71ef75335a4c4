-- The length is the length of its range.
use Rattle.std.proofs.Common.{rules, arith, refl, sym, ap, ℕ, ◌∙◌, ◌*◌, ◌<◌, ◌≤◌, length, map, replicate}
use Rattle.std.proofs.lemmas.List.{length-map, length-replicate}
use Rattle.std.proofs.lemmas.Option.{slice_get-map, slice_get_past, slice_get_read}
use Rattle.std.specs.Option.{option_map}
use Rattle.std.specs.Prelude.{sum}
use Rattle.capnp_frame.specs.Prelude.{range_len, cut}
use Rattle.capnp_frame.proofs.tables.PartsCutAtRunningSumsLemmas.{ShowsPart, shows}
use Rattle.capnp_frame.proofs.serialize.segment_lengths.length_at.Goals as goal
use Rattle.capnp_frame.proofs.serialize.segment_lengths.length_at.Goals.{In_ok-start}

-- as of segments of zeros
zeros : (c : In_ok-start) → ShowsPart (replicate (8 * sum (map range_len c.args.parts.now)) 0)
    (cut (map range_len c.args.parts.now) (replicate (8 * sum (map range_len c.args.parts.now)) 0)) c.args.id c.in_ok-start.field-0.now
zeros c =
    let size = 8 * sum (map range_len c.args.parts.now) in
    let long : 8 * sum (map range_len c.args.parts.now) ≤ length (replicate size 0) = omega (arith, length-replicate {A = ℕ} size 0) in
    shows c.args.parts.now (replicate size 0) _ c.args.id _ c.requires long refl (search rules) c.in_ok-start.ensures.lookup.1

pub returns-in_err-start : goal.returns-in_err-start
returns-in_err-start c =
    let past : length c.args.parts.now ≤ c.args.id = search rules in
    rw c.from_residual.ensures (sym (slice_get_past (map range_len c.args.parts.now) c.args.id (omega (arith, past, length-map c.args.parts.now range_len))))

pub overflow_sub-result : goal.overflow_sub-result
overflow_sub-result c = (zeros (goal.at.overflow_sub-result c).In_ok-start).ordered

pub returns : goal.returns
returns c =
    let at = (goal.at.returns c).In_ok-start in
    let items = c.args.parts.now in
    let within : c.args.id < length items = search rules in
    sym (slice_get-map range_len items c.args.id
    ∙ ap (option_map range_len) (slice_get_read items (length items) c.args.id at.in_ok-start.field-0.now refl within at.in_ok-start.ensures.lookup.1))
