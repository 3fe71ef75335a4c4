-- Eight words at a time, and then one.
use Rattle.std.proofs.Common.{rules, arith, ◌≡◌, ◌≤◌, ◌<◌, ◌+◌, ◌-◌, ◌/◌, get_or, [], replicate, take, drop, subst, length, length-take, length-drop}
use Rattle.std.proofs.lemmas.List.{drop-drop}
use lib.Count.{count_trailing_zeros}
use Rattle.std.specs.List.{concat}
use Rattle.capnp_pack.specs.Prelude.{IsWord, IfFirst, IsZero, tag_of}
use Rattle.capnp_pack.proofs.words.EachElementLemmas.{AllByRecursion-take, AllByRecursion-drop}
use Rattle.capnp_pack.proofs.words.ChunkWordLemmas.{each_word}
use Rattle.capnp_pack.proofs.words.LeadingZeroWordsByMaskLemmas.{all_one, all_zero, all_more, first_of_part, zeros_reported}
use Rattle.capnp_pack.proofs.runs.zero_run.Goals as goal

pub returns-then-marks-ne0 : goal.returns-then-marks-ne0
returns-then-marks-ne0 c =
    let words = c.args.words.now in
    let count = c.loop-count.count in
    let part = take (count + 8 - count) (drop count words) in
    let top : c.min-most.result ≤ 255 = search rules in
    let low : c.min-most.result ≤ length words = search rules in
    let room : 8 ≤ c.min-most.result - count = search rules in
    let eight : length part ≡ 8 = omega (arith, low, room, length-take (count + 8 - count) (drop count words), length-drop count words) in
    let all = AllByRecursion-take IsWord (count + 8 - count) (drop count words) (AllByRecursion-drop IsWord count words (each_word words c.told-words)) in
    let reported = zeros_reported part c.marks_of_eight-marks.result all eight c.marks_of_eight-marks.ensures (search rules) in
    let zeros = count_trailing_zeros 64 c.marks_of_eight-marks.result / 8 in
    let less : zeros < 8 = reported.0 in
    record {
      most = omega (arith, top, room, less);
      within = omega (arith, low, room, less);
      each = all_more IsZero count zeros (count + 8 - count) words (omega (arith, less)) c.loop-count.invariant.1 reported.1.1;
      ends = λ _. subst (λ l. IfFirst l (λ word. IsZero word → ⊥)) (drop-drop zeros count words)
          (first_of_part (λ word. IsZero word → ⊥) zeros (count + 8 - count) (drop count words) (omega (arith, less)) reported.1.2);
    }

pub loop-count-preserved : goal.loop-count-preserved
loop-count-preserved c =
    let words = c.args.words.now in
    let count = c.loop-count.count in
    let part = take (count + 8 - count) (drop count words) in
    let room : 8 ≤ c.min-most.result - count = search rules in
    let all = AllByRecursion-take IsWord (count + 8 - count) (drop count words) (AllByRecursion-drop IsWord count words (each_word words c.told-words)) in
    let none : tag_of (concat part) ≡ 0 = search rules in
    (omega (arith, room), all_more IsZero count 8 (count + 8 - count) words (omega arith) c.loop-count.invariant.1 (AllByRecursion-take IsZero 8 part (all_zero part all none)))

pub loop-count-2-preserved : goal.loop-count-2-preserved
loop-count-2-preserved c =
    let words = c.args.words.now in
    let count = c.loop-count-2.count in
    let zero : get_or words count [] ≡ replicate 8 0 = search rules in
    (omega arith, all_one IsZero words count (omega arith) c.loop-count-2.invariant.1 zero)
