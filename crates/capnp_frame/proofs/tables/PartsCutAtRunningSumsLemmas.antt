-- Running sums of lengths are the ranges at which bytes are cut into parts, and each part is what is in its range.
use Rattle.std.proofs.Common.{◌≡◌, ℕ, ◌+◌, ◌-◌, ◌*◌, ◌<◌, ◌≤◌, zero, suc, List, [], ◌∷◌, ◌++◌, length, map, take, drop, get_or, Some, None, refl, sym, ap, ◌∙◌, arith, zero-add}
use Rattle.std.proofs.lemmas.List.{drop-drop, map-append, take-append-drop, length-drop, length-map, nil_from_length}
use Rattle.std.proofs.lemmas.List.Sums.{sum_by-cons, sum_by_push}
use Rattle.std.specs.Prelude.{sum, slice_get}
use Rattle.std.specs.Prelude.{Option, option_copied, is_some, not, Bool, true, ◌↔◌}
use Rattle.std.proofs.lemmas.Bool.{not-false}
use Rattle.std.proofs.lemmas.Option.{slice_get_past, none-some}
use denote.Ref.{Bor}
use Rattle.std.specs.List.{concat}
use Rattle.capnp_frame.specs.Prelude.{ranges_from, ranges, range_len, cut, AreRanges}

sum-cons : (n : ℕ) (ns : List ℕ) → sum (n ∷ ns) ≡ n + sum ns
sum-cons n ns = sum_by-cons (λ x. x) n ns

pub sum_push : (ns : List ℕ) (n : ℕ) → sum (ns ++ n ∷ []) ≡ sum ns + n
sum_push ns n = sum_by_push (λ x. x) ns n

pub widths : (start : ℕ) (ns : List ℕ) → map range_len (ranges_from start ns) ≡ ns
widths start [] = refl
widths start (n ∷ ns) = let width : (start + n) - start ≡ n = omega arith in ap (λ k. k ∷ map range_len (ranges_from (start + n) ns)) width ∙ ap (λ l. n ∷ l) (widths (start + n) ns)

pub ranges_push : (start n : ℕ) (ns : List ℕ) → ranges_from start (ns ++ n ∷ []) ≡ ranges_from start ns ++ (start + sum ns, start + sum ns + n) ∷ []
ranges_push start n [] = let none : start ≡ start + 0 = omega arith in ap (λ k. (k, k + n) ∷ []) none
ranges_push start n (m ∷ ns) = let moved : start + m + sum ns ≡ start + sum (m ∷ ns) = omega (arith, sum-cons m ns) in
    ap (λ l. (start, start + m) ∷ l) (ranges_push (start + m) n ns
    ∙ ap (λ k. ranges_from (start + m) ns ++ (k, k + n) ∷ []) moved)

-- one more length
pub AreRanges-push : (indices : List (ℕ × ℕ)) (total n : ℕ) → AreRanges indices total → AreRanges (indices ++ (total, total + n) ∷ []) (total + n)
AreRanges-push indices total n are =
    let width : (total + n) - total ≡ n = omega arith in
    let lens : map range_len (indices ++ (total, total + n) ∷ []) ≡ map range_len indices ++ n ∷ [] = map-append
    range_len indices ((total, total + n) ∷ []) ∙ ap (λ k. map range_len indices ++ k ∷ []) width in
    let more : ranges (map range_len indices ++ n ∷ []) ≡ indices ++ (total, total + n) ∷ [] = ranges_push 0 n
    (map range_len indices) ∙ ap (λ k. ranges (map range_len indices) ++ (k, k + n) ∷ [])
    (zero-add (sum (map range_len indices)))
    ∙ ap (λ k. ranges (map range_len indices) ++ (k, k + n) ∷ []) (sym are.total_is)
    ∙ ap (λ l. l ++ (total, total + n) ∷ []) (sym are.running) in
    record { running = sym more ∙ ap ranges (sym lens); total_is = ap (λ k. k + n) are.total_is ∙ sym (sum_push (map range_len indices) n) ∙ ap sum (sym lens) }

pub concat-cut : (ns bytes : List ℕ) → length bytes ≡ 8 * sum ns → concat (cut ns bytes) ≡ bytes
concat-cut [] bytes all = sym (nil_from_length bytes all)
concat-cut (n ∷ ns) bytes all = ap (λ l. take (8 * n) bytes ++ l) (concat-cut ns (drop (8 * n) bytes) (omega (arith, length-drop (8 * n) bytes, sum-cons n ns))) ∙ take-append-drop (8 * n) bytes

pub length-cut : (ns bytes : List ℕ) → length (cut ns bytes) ≡ length ns
length-cut [] bytes = refl
length-cut (n ∷ ns) bytes = ap suc (length-cut ns (drop (8 * n) bytes))

-- item i of the parts lies in range i
pub part_of_cut : (start : ℕ) (ns bytes : List ℕ) (i : ℕ) (r : ℕ × ℕ) → i < length ns
    → r ≡ get_or (ranges_from start ns) i r → (start ≤ r.0) × (r.0 ≤ r.1) × (r.1 ≤ start + sum ns)
    × (slice_get (cut ns (drop (8 * start) bytes)) i ≡ Some (take (8 * r.1 - 8 * r.0) (drop (8 * r.0) bytes)))
part_of_cut start [] bytes i r within at = absurd (omega arith)
part_of_cut start (n ∷ ns) bytes zero r within at =
    let first : r.0 ≡ start = ap (λ p. p.0) at in
    let second : r.1 ≡ start + n = ap (λ p. p.1) at in
    let long : 8 * n ≡ 8 * r.1 - 8 * r.0 = omega arith in
    (omega arith, omega arith, omega (arith, sum-cons n ns), ap (λ k. Some (take k (drop (8 * start) bytes))) long ∙ ap (λ k. Some (take (8 * r.1 - 8 * r.0) (drop (8 * k) bytes))) (sym first))
part_of_cut start (n ∷ ns) bytes (suc i) r within at =
    let inner = part_of_cut (start + n) ns bytes i r (omega arith) at in
    let moved : 8 * start + 8 * n ≡ 8 * (start + n) = omega arith in
    (omega arith, inner.1, omega (arith, sum-cons n ns), ap (λ l. slice_get (cut ns l) i) (drop-drop (8 * n) (8 * start) bytes ∙ ap (λ k. drop k bytes) moved) ∙ inner.3)

-- what an index says of its range and its part
pub record ShowsPart (bytes : List ℕ) (segments : List (List ℕ)) (i : ℕ) (r : ℕ × ℕ) : Type 0 where
  pub ordered : r.0 ≤ r.1
  pub within : 8 * r.1 ≤ length bytes
  pub part : slice_get segments i ≡ Some (take (8 * r.1 - 8 * r.0) (drop (8 * r.0) bytes))

pub shows : (indices : List (ℕ × ℕ)) (bytes : List ℕ) (segments : List (List ℕ)) (i : ℕ) (r : ℕ × ℕ)
    → indices ≡ ranges (map range_len indices) → 8 * sum (map range_len indices) ≤ length bytes
    → cut (map range_len indices) bytes ≡ segments → i < length indices → r ≡ get_or indices i r
    → ShowsPart bytes segments i r
shows indices bytes segments i r running long view within at =
    let found = part_of_cut 0 (map range_len indices) bytes i r (omega (arith, length-map indices range_len)) (at ∙ ap (λ l. get_or l i r) running) in
    record { ordered = found.1; within = omega arith; part = ap (λ l. slice_get l i) (sym view) ∙ found.3 }

pub shows_none : (indices : List (ℕ × ℕ)) (bytes : List ℕ) (segments : List (List ℕ)) (i : ℕ) → cut (map range_len indices) bytes ≡ segments → length indices ≤ i → None ≡ slice_get segments i
shows_none indices bytes segments i view past = sym (slice_get_past segments i (omega (arith, length-map indices range_len, length-cut (map range_len indices) bytes, ap length view)))

pub first_shows : (r : Option (Bor (List ℕ))) (xs : List (List ℕ)) (b : Bool) → is_some r ≡ not b → option_copied r ≡ slice_get xs 0 → (b ≡ true) ↔ (xs ≡ [])
first_shows None [] b none e = (λ h. refl, λ h. not-false b (sym none))
first_shows None (x ∷ xs) b none e = absurd (none-some x e)
first_shows (Some r) [] b none e = absurd (none-some r.now (sym e))
first_shows (Some r) (x ∷ xs) b none e = (λ h. cc, λ h. cc)

pub AreRanges-pushed : (indices more : List (ℕ × ℕ)) (total n end : ℕ) → AreRanges indices total → end ≡ total + n → more ≡ indices ++ (total, end) ∷ [] → AreRanges more end
AreRanges-pushed indices more total n end are at pushed = rw (pushed, at) (AreRanges-push indices total n are)

pub length-ranges : (ns : List ℕ) → length (ranges ns) ≡ length ns
length-ranges ns = sym (length-map (ranges ns) range_len) ∙ ap length (widths 0 ns)

-- one range alone has all the length
pub width_alone : (indices : List (ℕ × ℕ)) (total : ℕ) → AreRanges indices total → length indices ≡ 1 → map range_len indices ≡ total ∷ []
width_alone [] total are one = absurd (omega (arith, one))
width_alone (range ∷ []) total are one = let sums : total ≡ range_len range = omega (arith, are.total_is, sum-cons (range_len range) []) in ap (λ n. n ∷ []) (sym sums)
width_alone (range ∷ more ∷ indices) total are one = absurd (omega (arith, one))
