-- Eight more words are of that kind.
use Rattle.std.proofs.Common.{rules, arith, ◌≡◌, ◌+◌, ◌-◌, take, drop}
use Rattle.std.specs.List.{concat}
use Rattle.capnp_pack.specs.Prelude.{zero_bytes, HasFewZeros}
use Rattle.capnp_pack.proofs.words.EachElementLemmas.{AllByRecursion-take}
use Rattle.capnp_pack.proofs.words.LeadingZeroWordsByMaskLemmas.{all_full, all_more}
use Rattle.capnp_pack.proofs.runs.full_eights.Goals as goal

pub loop-count-preserved : goal.loop-count-preserved
loop-count-preserved c =
    let words = c.args.words.now in
    let count = c.loop-count.count in
    let part = take (count + 8 - count) (drop count words) in
    let none : zero_bytes (concat part) ≡ 0 = search rules in
    (omega arith, all_more HasFewZeros count 8 (count + 8 - count) words (omega arith) c.loop-count.invariant.1 (AllByRecursion-take HasFewZeros 8 part (all_full part none)))
