-- How many words a run has: there is exactly one such number.
use Rattle.std.proofs.Common.{◌≡◌, ℕ, zero, suc, ◌<◌, ◌≤◌, ◌⊎◌, inl, inr, List, [], ◌∷◌, length, take, drop, replicate, refl, ap, ◌∙◌, arith}
use Rattle.std.proofs.lemmas.Bool.{cases_order}
use Rattle.std.specs.List.{AllByRecursion}
use Rattle.capnp_pack.specs.Prelude.{zero_word, zero_bytes, IfFirst, IsZero, HasFewZeros, IsRun}

clash : (P : List ℕ → Type 0) (m n : ℕ) (ws : List (List ℕ)) → m < n → n ≤ length ws → AllByRecursion P (take n ws) → IfFirst (drop m ws) (λ w. P w → ⊥) → ⊥
clash P m n [] low long each ends = omega arith
clash P m zero (w ∷ ws) low long each ends = omega arith
clash P zero (suc n) (w ∷ ws) low long each ends = ends each.0
clash P (suc m) (suc n) (w ∷ ws) low long each ends = clash P m n ws (omega arith) (omega arith) each.1 ends

pub IsRun-once : (P : List ℕ → Type 0) (ws : List (List ℕ)) (m n : ℕ) → IsRun P ws m → IsRun P ws n → m ≡ n
IsRun-once P ws m n p q = elim (cases_order m n) [
  | inl same ↦ same
  | inr other ↦ elim other [
    | inl less ↦ absurd (clash P m n ws less q.within q.each (p.ends (omega (arith, q.most))))
    | inr more ↦ absurd (clash P n m ws more p.within p.each (q.ends (omega (arith, p.most))))
  ]
]

run_some : (P : List ℕ → Type 0) → ((w : List ℕ) → P w ⊎ (P w → ⊥)) → (most : ℕ) (ws : List (List ℕ)) → (n : ℕ) × (n ≤ most) × (n ≤ length ws) ×
    AllByRecursion P (take n ws) × (n < most → IfFirst (drop n ws) (λ w. P w → ⊥))
run_some P decide zero ws = (0, omega arith, omega arith, tt, λ low. absurd (omega arith))
run_some P decide (suc most) [] = (0, omega arith, omega arith, tt, λ low. tt)
run_some P decide (suc most) (w ∷ ws) = elim (decide w) [
  | inl here ↦ let more = run_some P decide most ws in (suc more.0, omega (arith, more.1), omega (arith, more.2), (here, more.3), λ low. more.4 (omega arith))
  | inr other ↦ (0, omega arith, omega arith, tt, λ low. other)
]

pub IsRun-some : (P : List ℕ → Type 0) → ((w : List ℕ) → P w ⊎ (P w → ⊥)) → (ws : List (List ℕ)) → (n : ℕ) × IsRun P ws n
IsRun-some P decide ws = let some = run_some P decide 255 ws in (some.0, record { most = some.1; within = some.2; each = some.3; ends = some.4 })

pub IfFirst-weaker : {P Q : List ℕ → Type 0} (ws : List (List ℕ)) → ((w : List ℕ) → P w → Q w) → IfFirst ws P → IfFirst ws Q
IfFirst-weaker [] weaker p = tt
IfFirst-weaker (w ∷ ws) weaker p = weaker w p

pub same_zeros : (ws : List (List ℕ)) → AllByRecursion IsZero ws → ws ≡ replicate (length ws) zero_word
same_zeros [] all = refl
same_zeros (w ∷ ws) all = ap (λ k. k ∷ ws) all.0 ∙ ap (λ l. zero_word ∷ l) (same_zeros ws all.1)

pub all_zeros : (n : ℕ) → AllByRecursion IsZero (replicate n zero_word)
all_zeros zero = tt
all_zeros (suc n) = (refl, all_zeros n)

pub few_or_not : (w : List ℕ) → HasFewZeros w ⊎ (HasFewZeros w → ⊥)
few_or_not w = by_count (zero_bytes w)
  where
    by_count : (n : ℕ) → (n ≤ 1) ⊎ (n ≤ 1 → ⊥)
    by_count zero = inl (omega arith)
    by_count (suc zero) = inl (omega arith)
    by_count (suc (suc n)) = inr (λ h. omega arith)

pub zero_or_not : (w : List ℕ) → IsZero w ⊎ (IsZero w → ⊥)
zero_or_not w = same_zeros_or 8 w
  where
    same_zeros_or : (n : ℕ) (w : List ℕ) → (w ≡ replicate n 0) ⊎ (w ≡ replicate n 0 → ⊥)
    same_zeros_or zero [] = inl refl
    same_zeros_or zero (b ∷ w) = inr (λ e. cc)
    same_zeros_or (suc n) [] = inr (λ e. cc)
    same_zeros_or (suc n) (zero ∷ w) = elim (same_zeros_or n w) [ inl same ↦ inl (ap (λ l. 0 ∷ l) same) | inr other ↦ inr (λ e. other cc) ]
    same_zeros_or (suc n) (suc b ∷ w) = inr (λ e. cc)
