-- The table that is read is the only one that is there.
use Rattle.std.proofs.Common.{rules, ◌≡◌, ◌∙◌, ◌<◌, max, length, map, sym, ap, arith}
use Rattle.std.proofs.lemmas.Grind.{common_steps}
use Rattle.capnp_frame.specs.Prelude.{range_len}
use Rattle.capnp_frame.proofs.tables.PartsCutAtRunningSumsLemmas.{width_alone}
use Rattle.capnp_frame.proofs.sources.JoinedReaderStepOutcomesLemmas.{first_failed, memory_failed, lengths_failed, lengths_found}
use Rattle.capnp_frame.proofs.serialize.stream_table.read_indices.Goals as goal

pub returns-in_err-first : goal.returns-in_err-first
returns-in_err-first g c =
    let failed = c.in_err-first.ensures in
    first_failed g.R.Read c.args.rules.now.padding c.args.rules.now.limit_in_words _ _ _ _ _ c.from_residual.ensures.1 failed.errors failed.end failed.asked

pub returns-in_err-total : goal.returns-in_err-total
returns-in_err-total g c =
    let first = rw c.in-Some.is at c.in_ok-first.ensures.found in
    lengths_failed g.R.Read c.args.rules.now.padding c.args.rules.now.limit_in_words _ g.met.R.Read.lawful _ _ _ c.in-Some.first c.in_ok-count.count _ _ _
    (g.met.R.Read.keeps.transitive _ _ _) c.from_residual-in_err-total.ensures.1 first c.in_ok-count.ensures.accepted (search rules)
    c.read_first.ensures.asked.advances c.in_err-total.ensures

-- the length of the only segment
pub returns-then-count-eq1 : goal.returns-then-count-eq1
returns-then-count-eq1 g c =
    let first = rw c.in-Some.is at c.in_ok-first.ensures.found in
    let one : length c.read_lengths.new.indices ≡ 1 = search rules in
    let alone : c.with_single.result ≡ map range_len c.read_lengths.new.indices = c.with_single.ensures ∙ sym (width_alone _ _ c.in_ok-total.ensures.ranges one) in
    lengths_found g.R.Read c.args.rules.now.padding c.args.rules.now.limit_in_words _ _ _ _ c.in-Some.first c.in_ok-count.count _ _ _
    (g.met.R.Read.keeps.transitive _ _ _) first c.in_ok-count.ensures.accepted (search rules)
    c.read_first.ensures.asked.advances c.in_ok-total.ensures alone

pub returns-in_err-resize : goal.returns-in_err-resize
returns-in_err-resize g c =
    let first = rw c.in-Some.is at c.in_ok-first.ensures.found in
    let some = c.in_ok-count.ensures.accepted.some in
    let several = c.if-count-eq1.false in
    let memory = c.into_several-several.result in
    let kept = c.into_several-several.ensures in
    let full = c.in_err-resize.ensures.full in
    let more : max 1 (length c.args.spare) < c.in_ok-count.count = omega (arith, memory.ok.0, memory.ok.1) in
    memory_failed g.R.Read c.args.rules.now.padding c.args.rules.now.limit_in_words _ g.met.R.Read.lawful _ _ c.in-Some.first c.in_ok-count.count _
    (search rules) first c.in_ok-count.ensures.accepted more c.read_first.ensures.asked.advances

pub returns-in_err-total-2 : goal.returns-in_err-total-2
returns-in_err-total-2 g c =
    let first = rw c.in-Some.is at c.in_ok-first.ensures.found in
    lengths_failed g.R.Read c.args.rules.now.padding c.args.rules.now.limit_in_words _ g.met.R.Read.lawful _ _ _ c.in-Some.first c.in_ok-count.count _ _ _
    (g.met.R.Read.keeps.transitive _ _ _) c.from_residual-in_err-total-2.ensures.1 first c.in_ok-count.ensures.accepted (search rules)
    c.read_first.ensures.asked.advances c.in_err-total-2.ensures

pub returns : goal.returns
returns g c =
    let first = rw c.in-Some.is at c.in_ok-first.ensures.found in
    let are : c.from_several.result ≡ map range_len c.read_lengths-2.new.indices = rw c.from_several.ensures (ap (map range_len) (grind (arith, common_steps))) in
    lengths_found g.R.Read c.args.rules.now.padding c.args.rules.now.limit_in_words _ _ _ _ c.in-Some.first c.in_ok-count.count _ _ _
    (g.met.R.Read.keeps.transitive _ _ _) first c.in_ok-count.ensures.accepted (search rules)
    c.read_first.ensures.asked.advances c.in_ok-total-2.ensures are
