-- A word, or the eights from it on.
use Rattle.std.proofs.Common.{rules, arith, ◌+◌, ◌-◌, ℕ, zero, suc, sym, subst, max, get_or, [], List, take, drop, length-take}
use Rattle.std.proofs.Math.Nat.{max-eq_left}
use Rattle.std.specs.List.{AllByRecursion}
use Rattle.capnp_pack.specs.Prelude.{HasFewZeros}
use Rattle.capnp_pack.proofs.words.LeadingZeroWordsByMaskLemmas.{all_one, all_more}
use Rattle.capnp_pack.proofs.runs.literal_run.Goals as goal

pub loop-count-preserved : goal.loop-count-preserved
loop-count-preserved c =
    let few : HasFewZeros (get_or c.args.words.now c.loop-count.count []) = search rules in (
      search rules,
      all_one HasFewZeros c.args.words.now c.loop-count.count (search rules) c.loop-count.invariant.1 few,
    )

pub loop-count-preserved-then-count-eq1 : goal.loop-count-preserved-then-count-eq1
loop-count-preserved-then-count-eq1 c =
    let words = c.args.words.now in
    let count = c.loop-count.count in
    let most = c.min-most.result in
    let eights = c.full_eights.result in
    let room = length-take (most - count) (drop count words) in
    let few : HasFewZeros (get_or words count []) = search rules in
    let one : AllByRecursion HasFewZeros (take (count + 1) words) = all_one HasFewZeros words count (omega arith) c.loop-count.invariant.1 few in
    let more : AllByRecursion HasFewZeros (take (count + eights) words) =
    all_more HasFewZeros count eights (most - count) words (omega (arith, room, c.full_eights.ensures.within)) c.loop-count.invariant.1 c.full_eights.ensures.each in (
      omega (arith, room, c.full_eights.ensures.within),
      subst (λ n. AllByRecursion HasFewZeros (take (count + n) words)) (sym c.max-count.ensures) (at_least_one words count eights one more),
    )
  where
    at_least_one : (words : List (List ℕ)) (count eights : ℕ) → AllByRecursion HasFewZeros (take (count + 1) words)
        → AllByRecursion HasFewZeros (take (count + eights) words) → AllByRecursion HasFewZeros (take (count + max eights 1) words)
    at_least_one words count zero one more = one
    at_least_one words count (suc eights) one more =
        subst (λ n. AllByRecursion HasFewZeros (take (count + n) words)) (sym (max-eq_left (omega arith))) more
