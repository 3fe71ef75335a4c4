-- The table that is read is the only one that is there.
use Rattle.std.proofs.Common.{rules, ◌≡◌, ◌∙◌, ◌<◌, length, map, ap, arith}
use Rattle.std.proofs.lemmas.Grind.{common_steps}
use Rattle.capnp_frame.specs.Prelude.{range_len}
use Rattle.capnp_frame.proofs.tables.PartsCutAtRunningSumsLemmas.{length-ranges}
use Rattle.capnp_frame.proofs.sources.JoinedReaderStepOutcomesLemmas.{first_failed, memory_failed, lengths_failed, lengths_found}
use Rattle.capnp_frame.proofs.serialize.stream_table.read_table.Goals as goal

pub returns-in_err-first : goal.returns-in_err-first
returns-in_err-first g c =
    let failed = c.in_err-first.ensures in
    first_failed g.R.Read c.args.rules.padding c.args.rules.limit_in_words _ _ _ _ _ c.from_residual.ensures.1 failed.errors failed.end failed.asked

pub returns-in_err-resize : goal.returns-in_err-resize
returns-in_err-resize g c =
    let first = rw c.in-Some.is at c.in_ok-first.ensures.found in
    let memory = c.to_segment_indices-indices.result in
    let kept : length memory.items ≡ length c.args.lengths = ap length c.to_segment_indices-indices.ensures ∙ length-ranges c.args.lengths in
    let more : length c.args.lengths < c.in_ok-count.count = omega (arith, kept, c.in_err-resize.ensures.full, memory.ok.0, memory.ok.1) in
    memory_failed g.R.Read c.args.rules.padding c.args.rules.limit_in_words _ g.met.R.Read.lawful _ _ c.in-Some.first c.in_ok-count.count _
    (search rules) first c.in_ok-count.ensures.accepted more c.read_first.ensures.asked.advances

pub returns-in_err-total : goal.returns-in_err-total
returns-in_err-total g c =
    let first = rw c.in-Some.is at c.in_ok-first.ensures.found in
    lengths_failed g.R.Read c.args.rules.padding c.args.rules.limit_in_words _ g.met.R.Read.lawful _ _ _ c.in-Some.first c.in_ok-count.count _ _ _
    (g.met.R.Read.keeps.transitive _ _ _) c.from_residual-in_err-total.ensures.1 first c.in_ok-count.ensures.accepted (search rules)
    c.read_first.ensures.asked.advances c.in_err-total.ensures

pub returns : goal.returns
returns g c =
    let first = rw c.in-Some.is at c.in_ok-first.ensures.found in
    let are : c.from_indices.result ≡ map range_len c.read_lengths.new.indices = rw c.from_indices.ensures (ap (map range_len) (grind (arith, common_steps))) in
    lengths_found g.R.Read c.args.rules.padding c.args.rules.limit_in_words _ _ _ _ c.in-Some.first c.in_ok-count.count _ _ _
    (g.met.R.Read.keeps.transitive _ _ _) first c.in_ok-count.ensures.accepted (search rules)
    c.read_first.ensures.asked.advances c.in_ok-total.ensures are
