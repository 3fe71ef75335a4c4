-- Each turn skips more groups of the chunk.
use Rattle.std.proofs.Common.{rules, arith, inr, ◌+◌, ◌-◌, ◌≡◌}
use Rattle.capnp_frame.proofs.sources.JoinedCallsAdvanceSourceLemmas.{passed_on, Asked-err}
use Rattle.capnp_frame.proofs.sources.JoinedRequestPartsLemmas.{Advances-join, not_empty_before}
use Rattle.capnp_pack.proofs.errors.ConsumedAtCountOverrunLemmas.{over_after}
use Rattle.capnp_pack.proofs.unpacking.TakenGroupsUnpackedByteCountLemmas.{more_taken}
use Rattle.capnp_pack.proofs.unpacking.SkipOutcomeIsRequestOutcomeLemmas.{skip_failed, skip_missing, skip_none, chunk_skipped}
use Rattle.capnp_pack.proofs.skip.skip_chunk.Goals as goal

pub returns-in_err-size-clause-errors : goal.returns-in_err-size-clause-errors
returns-in_err-size-clause-errors g c =
    let so_far = c.loop-skipped.invariant in
    let reported = c.in_err-size.ensures.takes in
    passed_on _ _ c.from_residual.ensures.1 (skip_failed c.args.count c.loop-skipped.skipped _ _ _ c.requires so_far.some so_far.start so_far.groups reported.at_end reported.errors)

pub returns-in_err-size-clause-overrun : goal.returns-in_err-size-clause-overrun
returns-in_err-size-clause-overrun g c =
    let all : c.args.count ≡ c.loop-skipped.skipped + (c.args.count - c.loop-skipped.skipped) = omega arith in
    passed_on _ _ c.from_residual.ensures.1 (λ over. over_after _ c.loop-skipped.skipped _ _ _ _ all c.loop-skipped.invariant.groups (c.in_err-size.ensures.overrun over))

pub returns-in_err-size-clause-asked : goal.returns-in_err-size-clause-asked
returns-in_err-size-clause-asked g c = Asked-err (g.met.R.Read.keeps.transitive _ _ _) c.from_residual.ensures.1 c.loop-skipped.invariant.advances c.in_err-size.ensures.takes.asked

pub loop-skipped-preserved : goal.loop-skipped-preserved
loop-skipped-preserved g c =
    let so_far = c.loop-skipped.invariant in
    let (some, within, whole, more, groups) = rw c.in-Some.is at c.in_ok-size.ensures.takes.found in
    record {
      within = omega (arith, within);
      whole = omega (arith, whole, so_far.whole);
      some = λ _. not_empty_before _ _ so_far.advances.tail more;
      start = λ none. absurd (omega (arith, some, none));
      groups = more_taken c.loop-skipped.skipped c.in-Some.size _ _ _ so_far.groups groups;
      advances = Advances-join _ _ _ (g.met.R.Read.keeps.transitive _ _ _) so_far.advances c.skip_groups.ensures.takes.asked.advances;
    }

pub returns-in-None-clause-errors : goal.returns-in-None-clause-errors
returns-in-None-clause-errors g c =
    rw c.from_kind.ensures (inr (skip_none c.args.count _ _ c.requires (omega arith) (c.loop-skipped.invariant.start c.if-skipped-eq0.true)
    (rw c.in-None.is at c.in_ok-size.ensures.takes.none)))

pub returns-in-None-2-clause-errors : goal.returns-in-None-2-clause-errors
returns-in-None-2-clause-errors g c =
    let so_far = c.loop-skipped.invariant in
    rw c.from_kind-in-None-2.ensures (inr (skip_missing c.args.count c.loop-skipped.skipped _ _ c.requires (search rules) (so_far.some (search rules)) so_far.groups
    (rw c.in-None.is at c.in_ok-size.ensures.takes.none)))

pub returns-in-None-2-clause-asked : goal.returns-in-None-2-clause-asked
returns-in-None-2-clause-asked g c = record {
  failed = λ device. (let is = c.from_kind-in-None-2.ensures in absurd cc);
  advances = Advances-join _ _ _ (g.met.R.Read.keeps.transitive _ _ _) c.loop-skipped.invariant.advances c.skip_groups.ensures.takes.asked.advances;
}

pub returns-clause-skipped : goal.returns-clause-skipped
returns-clause-skipped g c = chunk_skipped c.args.count c.loop-skipped.skipped _ _ (omega arith) c.loop-skipped.invariant.groups
