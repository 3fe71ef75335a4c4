-- The tag that marks exactly the bytes that aren't zero.
use Rattle.std.proofs.Common.{◌≡◌, ℕ, zero, suc, ◌+◌, ◌*◌, ◌/◌, ◌%◌, ◌<◌, List, [], ◌∷◌, ◌++◌, length, replicate, refl, sym, ap, ◌∙◌, subst, arith, cond}
use Rattle.std.specs.Prelude.{◌==◌, if◌then◌else◌, not}
use Rattle.std.proofs.Math.Dec.{eqb-suc-zero}
use Rattle.std.specs.List.{AllByRecursion}
use Rattle.std.specs.Int.Bits.{bit_or, or_zero_l}
use Rattle.std.proofs.lemmas.Nat.{le_or_l}
use Rattle.std.proofs.lemmas.List.Sums.{sum_by-cons}
use Rattle.capnp_pack.specs.Prelude.{IsWord, AreZero, zero_bytes, marked, unmarked, bytes_at, tag_of, nonzero}

pub zeros_cons : (b : ℕ) (w : List ℕ) → zero_bytes (b ∷ w) ≡ cond (b == 0) 1 0 + zero_bytes w
zeros_cons b w = sum_by-cons (λ x. cond (x == 0) 1 0) b w

pub zeros_suc : (b : ℕ) (w : List ℕ) → zero_bytes (suc b ∷ w) ≡ zero_bytes w
zeros_suc b w = let no : ◌≡◌ {A = ℕ} (cond (suc b == 0) 1 0) 0 = ap (λ v. cond {A = ℕ} v 1 0) (eqb-suc-zero b) in omega (arith, zeros_cons (suc b) w)

bit_suc : (b : ℕ) → ◌≡◌ {A = ℕ} (if suc b == 0 then 0 else 1) 1
bit_suc b = ap (λ v. if◌then◌else◌ {A = ℕ} v 0 1) (eqb-suc-zero b)

pub tag_suc : (b : ℕ) (w : List ℕ) → tag_of (suc b ∷ w) ≡ 1 + 2 * tag_of w
tag_suc b w = ap (λ k. k + 2 * tag_of w) (bit_suc b)

pub nonzero_suc : (b : ℕ) (w : List ℕ) → nonzero (suc b ∷ w) ≡ suc b ∷ nonzero w
nonzero_suc b w = ap (λ v. cond (not v) (suc b ∷ nonzero w) (nonzero w)) (eqb-suc-zero b)

-- one more than the greatest tag
abbrev pub top : List ℕ → ℕ
top [] = 1
top (b ∷ w) = 2 * top w

top_len : (w : List ℕ) → top w ≡ top (replicate (length w) 0)
top_len [] = refl
top_len (b ∷ w) = ap (λ n. 2 * n) (top_len w)

pub top_word : (w : List ℕ) → IsWord w → top w ≡ 256
top_word w is = top_len w ∙ ap (λ n. top (replicate n 0)) is

pub tag_below : (w : List ℕ) → tag_of w < top w
tag_below [] = omega arith
tag_below (zero ∷ w) = omega (arith, tag_below w)
tag_below (suc b ∷ w) = omega (arith, tag_below w, bit_suc b)

pub tag_zero : (w : List ℕ) → tag_of w ≡ 0 → w ≡ replicate (length w) 0
tag_zero [] e = refl
tag_zero (zero ∷ w) e = ap (λ l. 0 ∷ l) (tag_zero w (omega arith))
tag_zero (suc b ∷ w) e = absurd (omega (arith, bit_suc b))

pub tag_full : (w : List ℕ) → tag_of w + 1 ≡ top w → zero_bytes w ≡ 0
tag_full [] e = refl
tag_full (zero ∷ w) e = absurd (omega arith)
tag_full (suc b ∷ w) e = zeros_suc b w ∙ tag_full w (omega (arith, bit_suc b))

pub tag_whole : (w : List ℕ) → zero_bytes w ≡ 0 → tag_of w + 1 ≡ top w
tag_whole [] e = refl
tag_whole (zero ∷ w) e = absurd (omega (arith, zeros_cons 0 w))
tag_whole (suc b ∷ w) e = omega (arith, tag_whole w (sym (zeros_suc b w) ∙ e), bit_suc b)

bytes_step : (bit n r q b : ℕ) (w : List ℕ) → n % 2 ≡ r → n / 2 ≡ q → bytes_at bit n (b ∷ w) ≡ (if r == bit then b ∷ [] else []) ++ bytes_at bit q w
bytes_step bit n r q b w e f = ap (λ k. (if k == bit then b ∷ [] else []) ++ bytes_at bit (n / 2) w) e ∙ ap (λ k. (if r == bit then b ∷ [] else []) ++ bytes_at bit k w) f

even : (t : ℕ) → ((0 + 2 * t) % 2 ≡ 0) × ((0 + 2 * t) / 2 ≡ t)
even t = (omega arith, omega arith)

odd : (t : ℕ) → ((1 + 2 * t) % 2 ≡ 1) × ((1 + 2 * t) / 2 ≡ t)
odd t = (omega arith, omega arith)

pub marked_tag : (w : List ℕ) → marked (tag_of w) w ≡ nonzero w
marked_tag [] = refl
marked_tag (zero ∷ w) = let two = even (tag_of w) in bytes_step 1 (0 + 2 * tag_of w) 0 (tag_of w) 0 w two.0 two.1 ∙ marked_tag w
marked_tag (suc b ∷ w) = let two = odd (tag_of w) in ap (λ k. marked k (suc b ∷ w)) (tag_suc b w)
    ∙ bytes_step 1 (1 + 2 * tag_of w) 1 (tag_of w) (suc b) w two.0 two.1 ∙ ap (λ l. suc b ∷ l) (marked_tag w) ∙ sym (nonzero_suc b w)

abbrev pub ArePositive : List ℕ → Type 0
ArePositive bytes = AllByRecursion (λ byte. 0 < byte) bytes

pub unmarked_tag : (w : List ℕ) → AreZero (unmarked (tag_of w) w)
unmarked_tag [] = tt
unmarked_tag (zero ∷ w) = let two = even (tag_of w) in subst AreZero (sym (bytes_step 0 (0 + 2 * tag_of w) 0 (tag_of w) 0 w two.0 two.1)) (refl, unmarked_tag w)
unmarked_tag (suc b ∷ w) = let two =
    odd (tag_of w) in subst AreZero (sym (ap (λ k. unmarked k (suc b ∷ w)) (tag_suc b w) ∙ bytes_step 0 (1 + 2 * tag_of w) 1 (tag_of w) (suc b) w two.0 two.1)) (unmarked_tag w)

pub nonzero_marked : (w : List ℕ) → ArePositive (nonzero w)
nonzero_marked [] = tt
nonzero_marked (zero ∷ w) = nonzero_marked w
nonzero_marked (suc b ∷ w) = subst ArePositive (sym (nonzero_suc b w)) (omega arith, nonzero_marked w)

tag_step : (r b : ℕ) (u m : List ℕ) → r < 2 → AreZero ((if r == 0 then b ∷ [] else []) ++ u) → ArePositive ((if r == 1 then b ∷ [] else []) ++ m) →
    ((if b == 0 then 0 else 1) ≡ r) × AreZero u × ArePositive m
tag_step zero b u m low p q = (ap (λ k. if k == 0 then 0 else 1) p.0, p.1, q)
tag_step (suc zero) zero u m low p q = let none : ◌<◌ 0 0 = q.0 in absurd (omega arith)
tag_step (suc zero) (suc b) u m low p q = (bit_suc b, p, q.1)
tag_step (suc (suc r)) b u m low p q = absurd (omega arith)

-- a tag that marks exactly the bytes that aren't zero
pub tag_once : (w : List ℕ) (t : ℕ) → t < top w → AreZero (unmarked t w) → ArePositive (marked t w) → tag_of w ≡ t
tag_once [] t low p q = omega arith
tag_once (b ∷ w) t low p q =
    let step = tag_step (t % 2) b (unmarked (t / 2) w) (marked (t / 2) w) (omega arith) p q in
    let first : (if b == 0 then 0 else 1) ≡ t % 2 = step.0 in
    let others : tag_of w ≡ t / 2 = tag_once w (t / 2) (omega arith) step.1 step.2 in
    omega arith

-- a tag is zero where it and a mark have no bit
pub no_tag : (tag mark : ℕ) → bit_or tag mark ≡ 0 → tag ≡ 0
no_tag tag mark none = omega (arith, none, le_or_l tag mark)

-- and where they have some, it is the mark's if the tag is zero
pub mark_left : (tag mark : ℕ) → tag ≡ 0 → (bit_or tag mark ≡ 0 → ⊥) → 0 < mark
mark_left tag zero none some = absurd (some (ap (λ t. bit_or t 0) none ∙ or_zero_l 0))
mark_left tag (suc mark) none some = omega arith
