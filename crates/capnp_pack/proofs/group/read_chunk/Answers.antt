-- Each group returns a part of what the ones before it left of the request.
use Rattle.std.proofs.Common.{rules, inr, ◌≡◌, ◌+◌, ◌-◌, ◌≤◌, arith, ◌∙◌, sym, subst, length}
use Rattle.capnp_pack.specs.Prelude.{Unpacks, PackedError}
use Rattle.capnp_frame.proofs.sources.JoinedRequestPartsLemmas.{Advances-join, ReturnsPart-fill, not_empty_before, ends}
use Rattle.capnp_frame.proofs.sources.JoinedCallsAdvanceSourceLemmas.{passed_on, Asked-err}
use Rattle.capnp_pack.proofs.errors.ConsumedAtCountOverrunLemmas.{over_after}
use Rattle.capnp_pack.proofs.unpacking.TakenGroupsUnpackedByteCountLemmas.{more_taken}
use Rattle.capnp_pack.proofs.errors.ChunkRequestErrorLemmas.{group_failed, group_missing, first_missing, chunk_taken, no_chunk_taken, end_before}
use Rattle.capnp_pack.proofs.group.read_chunk.Goals as goal

pub returns-in_err-count-clause-errors : goal.returns-in_err-count-clause-errors
returns-in_err-count-clause-errors g c =
    let so_far = c.loop-filled.invariant in
    let reported = c.in_err-count.ensures.takes in
    passed_on _ _ c.from_residual.ensures.1 (group_failed c.loop-filled.filled _ c.loop-filled.buffer c.read_groups.new.buffer _ _ _
    so_far.1 (search rules) so_far.0 c.requires so_far.3 so_far.4 so_far.5 reported.at_end reported.errors)

pub returns-in_err-count-clause-asked : goal.returns-in_err-count-clause-asked
returns-in_err-count-clause-asked g c = Asked-err (g.met.R.Read.keeps.transitive _ _ _) c.from_residual.ensures.1 c.loop-filled.invariant.6 c.in_err-count.ensures.takes.asked

pub loop-filled-preserved : goal.loop-filled-preserved
loop-filled-preserved g c =
    let so_far = c.loop-filled.invariant in
    let found = rw c.in-Some.is at c.in_ok-count.ensures.takes.found in
    let part : length c.read_groups.new.buffer ≡ length c.loop-filled.buffer - c.loop-filled.filled = search rules in
    let filled = ReturnsPart-fill Unpacks PackedError _ c.in-Some.count c.loop-filled.buffer c.read_groups.new.buffer _ _ _ so_far.1 part found.1 so_far.5 found.5 in (
      filled.0 ∙ so_far.0,
      subst (λ n. c.loop-filled.filled + c.in-Some.count ≤ n) (sym filled.0) (omega (arith, found.1, part, so_far.1)),
      omega (arith, found.2, so_far.2),
      λ _. not_empty_before _ _ so_far.6.tail found.3,
      λ none. absurd (omega (arith, found.0, none)),
      filled.1,
      Advances-join _ _ _ (g.met.R.Read.keeps.transitive _ _ _) so_far.6 c.read_groups.ensures.takes.asked.advances,
      more_taken c.loop-filled.filled c.in-Some.count _ _ _ so_far.7 found.4,
    )

pub returns-in-None-clause-end : goal.returns-in-None-clause-end
returns-in-None-clause-end g c = ends _ _ (end_before _ _ (c.loop-filled.invariant.4 c.if-filled-eq0.true) (rw c.in-None.is at c.in_ok-count.ensures.takes.none))

pub returns-in-None-2-clause-errors : goal.returns-in-None-2-clause-errors
returns-in-None-2-clause-errors g c =
    let so_far = c.loop-filled.invariant in
    rw c.from_kind.ensures (inr (group_missing c.loop-filled.filled _ c.loop-filled.buffer c.read_groups.new.buffer _ _
    so_far.1 (search rules) so_far.0 c.requires (so_far.3 (search rules)) so_far.5 (search rules) (rw c.in-None.is at c.in_ok-count.ensures.takes.none)))

pub returns-in-None-clause-taken : goal.returns-in-None-clause-taken
returns-in-None-clause-taken g c = no_chunk_taken _ _ _ _ (c.loop-filled.invariant.4 c.if-filled-eq0.true) (rw c.in-None.is at c.in_ok-count.ensures.takes.none) c.read_groups.ensures.takes.asked.advances.tail

pub returns-in-None-clause-spent : goal.returns-in-None-clause-spent
returns-in-None-clause-spent g c =
    let so_far = c.loop-filled.invariant in
    λ zero. first_missing c.loop-filled.filled _ c.loop-filled.buffer c.read_groups.new.buffer _ _ so_far.1 (search rules) so_far.0 c.requires
    (so_far.4 c.if-filled-eq0.true) (rw c.in-None.is at c.in_ok-count.ensures.takes.none)

pub returns-clause-taken : goal.returns-clause-taken
returns-clause-taken g c = chunk_taken c.loop-filled.filled c.loop-filled.buffer _ _ c.loop-filled-test.false c.loop-filled.invariant.5

pub returns-in_err-count-clause-overrun : goal.returns-in_err-count-clause-overrun
returns-in_err-count-clause-overrun g c =
    passed_on _ _ c.from_residual.ensures.1 (λ over. over_after _ c.loop-filled.filled _ _ _ _ (search rules) c.loop-filled.invariant.7 (c.in_err-count.ensures.overrun over))
