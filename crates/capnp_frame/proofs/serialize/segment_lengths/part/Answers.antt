-- The range of this number is the range of its part.
use Rattle.std.proofs.Common.{rules, arith, refl, sym, map}
use Rattle.capnp_frame.specs.Prelude.{range_len, cut}
use Rattle.capnp_frame.proofs.tables.PartsCutAtRunningSumsLemmas.{ShowsPart, shows, shows_none}
use Rattle.capnp_frame.proofs.serialize.segment_lengths.part.Goals as goal
use Rattle.capnp_frame.proofs.serialize.segment_lengths.part.Goals.{In_ok-start}

shown : (c : In_ok-start) → ShowsPart c.args.bytes.now (cut (map range_len c.args.indices.now) c.args.bytes.now) c.args.id c.in_ok-start.field-0.now
shown c = shows c.args.indices.now c.args.bytes.now _ c.args.id _ c.requires.running c.requires.room refl (search rules) c.in_ok-start.ensures.lookup.1

pub returns-in_err-start : goal.returns-in_err-start
returns-in_err-start c = rw c.from_residual.ensures (shows_none c.args.indices.now c.args.bytes.now _ c.args.id refl (search rules))

pub overflow_mul-result : goal.overflow_mul-result
overflow_mul-result c = let part = shown (goal.at.overflow_mul-result c).In_ok-start in omega (arith, part.ordered, part.within)

pub overflow_mul-result-2 : goal.overflow_mul-result-2
overflow_mul-result-2 c = omega (arith, (shown (goal.at.overflow_mul-result-2 c).In_ok-start).within)

pub slice_bounds-result-count : goal.slice_bounds-result-count
slice_bounds-result-count c = omega (arith, (shown (goal.at.slice_bounds-result-count c).In_ok-start).ordered)

pub slice_bounds-result-start : goal.slice_bounds-result-start
slice_bounds-result-start c = omega (arith, (shown (goal.at.slice_bounds-result-start c).In_ok-start).ordered)

pub slice_bounds-result-end : goal.slice_bounds-result-end
slice_bounds-result-end c = omega (arith, (shown (goal.at.slice_bounds-result-end c).In_ok-start).within)

pub returns : goal.returns
returns c = sym (shown (goal.at.returns c).In_ok-start).part
