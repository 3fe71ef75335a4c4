-- A segment is its used bytes and then zeros: what is used once it grows, and once it is written.
use Rattle.std.proofs.Common.{◌≡◌, ℕ, zero, suc, ◌+◌, ◌-◌, ◌*◌, ◌/◌, ◌^◌, ◌≤◌, min, List, [], ◌∷◌, ◌++◌, length, take, drop, replicate, Bool, All, refl, ap, sym, subst, ◌∙◌, arith, length-append, length-take}
use Rattle.std.proofs.Common.{length-drop, append_assoc}
use Rattle.std.proofs.lemmas.List.Elements.{All-drop}
use Rattle.std.proofs.lemmas.List.{drop-drop, take-take, take-append-drop, drop-take}
use Rattle.std.proofs.lemmas.Slice.{drop-append-drop}
use Rattle.std.proofs.Math.Seq.{take-append-add, take-append_seam}
use Rattle.capnp_build.specs.Prelude.{written, Space, ZeroFrom}

-- the first of many zeros
zeros : (n : ℕ) (xs : List ℕ) → n ≤ length xs → All (λ b. b ≡ 0) xs → take n xs ≡ replicate n 0
zeros zero xs fits all = refl
zeros (suc n) [] fits all = absurd (omega (arith, fits))
zeros (suc n) (x ∷ xs) fits all =
    let first : x ≡ 0 = all 0 0 (omega arith) in
    let rest : take n xs ≡ replicate n 0 = zeros n xs (omega (arith, fits)) (λ k d h. all (suc k) d (omega (arith, h))) in
    rw (first, rest) refl

take-add : (m n : ℕ) (xs : List ℕ) → take (m + n) xs ≡ take m xs ++ take n (drop m xs)
take-add m n xs = let two : take m (take (m + n) xs) ++ drop m (take (m + n) xs) ≡ take (m + n) xs = take-append-drop m (take (m + n) xs) in
    let front : take m (take (m + n) xs) ≡ take m xs = take-take m (m + n) xs (omega arith) in
    let back : drop m (take (m + n) xs) ≡ take n (drop m xs) = drop-take m n xs in
    sym two ∙ rw (front, back) refl

pub grows : (used n : ℕ) (xs : List ℕ) → used + n ≤ length xs → ZeroFrom used xs → take (used + n) xs ≡ take used xs ++ replicate n 0
grows used n xs fits clean =
    let left : n ≤ length (drop used xs) = omega (arith, fits, length-drop used xs) in
    take-add used n xs ∙ ap (λ (l : List ℕ). take used xs ++ l) (zeros n (drop used xs) left clean)

pub still_zero : (used n : ℕ) (xs : List ℕ) → ZeroFrom used xs → ZeroFrom (used + n) xs
still_zero used n xs clean = subst (All (λ b. b ≡ 0)) (drop-drop n used xs) (All-drop (λ b. b ≡ 0) n (drop used xs) clean)

pub written_length : (at : ℕ) (xs w : List ℕ) → at + length w ≤ length xs → length (written xs at w) ≡ length xs
written_length at xs w fits = omega (
  arith,
  fits,
  length-append (take at xs) (w ++ drop (at + length w) xs),
  length-append w (drop (at + length w) xs),
  length-take at xs,
  length-drop (at + length w) xs,
)

written_front : (at d : ℕ) (xs w : List ℕ) → at + length w + d ≤ length xs → take (at + length w + d) (written xs at w) ≡ written (take (at + length w + d) xs) at w
written_front at d xs w fits =
    let k : ℕ = at + length w in
    let front : List ℕ = take at xs ++ w in
    let la : length (take at xs) ≡ at = omega (arith, fits, length-take at xs) in
    let lb : length front ≡ k = omega (arith, la, length-append (take at xs) w) in
    let cut : take at (take (k + d) xs) ≡ take at xs = take-take at (k + d) xs (omega arith) in
    let past : take (k + d) (front ++ drop k xs) ≡ front ++ take d (drop k xs) = subst (λ (n : ℕ). take (n + d) (front ++ drop k xs) ≡ front ++ take d (drop k xs)) lb
    (take-append-add front (drop k xs) d) in
    ap (λ (l : List ℕ). take (k + d) l) (sym (append_assoc (take at xs) w (drop k xs))) ∙ past ∙ append_assoc (take at xs) w (take d (drop k xs))
    ∙ ap (λ (l : List ℕ). l ++ (w ++ take d (drop k xs))) (sym cut) ∙ ap (λ (l : List ℕ). take at (take (k + d) xs) ++ (w ++ l)) (sym (drop-take k d xs))

-- a write inside of the used bytes
pub written_used : (at used : ℕ) (xs w : List ℕ) → at + length w ≤ used → used ≤ length xs → take used (written xs at w) ≡ written (take used xs) at w
written_used at used xs w inside fits =
    let d : ℕ = used - (at + length w) in
    let e : at + length w + d ≡ used = omega (arith, inside) in
    subst (λ (n : ℕ). take n (written xs at w) ≡ written (take n xs) at w) e (written_front at d xs w (omega (arith, e, fits)))

pub written_zero : (at used : ℕ) (xs w : List ℕ) → at + length w ≤ used → used ≤ length xs → drop used (written xs at w) ≡ drop used xs
written_zero at used xs w inside fits =
    let la : length (take at xs) ≡ at = omega (arith, inside, fits, length-take at xs) in
    let same : written xs at w ≡ (take at xs ++ w) ++ drop (at + length w) xs = sym (append_assoc (take at xs) w (drop (at + length w) xs)) in
    let lb : length (take at xs ++ w) ≡ at + length w = omega (arith, la, length-append (take at xs) w) in
    rw same (drop-append-drop (at + length w) xs (take at xs ++ w) used inside lb)

pub same_space : (u v : List ℕ) (n m : ℕ) (a b : Bool) → u ≡ v → n ≡ m → a ≡ b
    → (let left : Space = record { used = u; size = n; is_provided = a } in let right : Space = record { used = v; size = m; is_provided = b } in left ≡ right)
same_space u v n m a b e f h = cc

-- a block after the used bytes
pub block_after : (at n : ℕ) (xs w : List ℕ) → length w ≡ n → at + n ≤ length xs → take (at + n) (written xs at w) ≡ take at xs ++ w
block_after at n xs w long fits =
    let front : length (take at xs ++ w) ≡ at + n = omega (arith, fits, long, length-append (take at xs) w, length-take at xs) in
    ap (take (at + n)) (sym (append_assoc (take at xs) w (drop (at + length w) xs)))
    ∙ ap (λ (k : ℕ). take k ((take at xs ++ w) ++ drop (at + length w) xs)) (sym front) ∙ take-append_seam (take at xs ++ w) (drop (at + length w) xs)

pub zeros_after_used : (used n : ℕ) (xs : List ℕ) → used + n ≤ length xs → ZeroFrom used xs → take n (drop used xs) ≡ replicate n 0
zeros_after_used used n xs fits clean = zeros n (drop used xs) (omega (arith, fits, length-drop used xs)) clean

-- what is asked of a segment, in words of its fields
pub grown_within : (words n size : ℕ) (used content : List ℕ) → used ≡ take (8 * words) content → size ≡ length content → 8 * words ≤ length content
    → words ≤ 2 ^ 29 → n ≤ min (size / 8) (2 ^ 29) - length used / 8 → (8 * words + 8 * n ≤ length content) × (words + n ≤ 2 ^ 29)
grown_within words n size used content e f fits few room =
    let l : length used ≡ 8 * words = ap length e ∙ omega (arith, length-take (8 * words) content) in
    (omega arith, omega arith)

pub written_within : (words at : ℕ) (used content w : List ℕ) → used ≡ take (8 * words) content → 8 * words ≤ length content → at + length w ≤ length used
    → at + length w ≤ 8 * words
written_within words at used content w e fits h =
    let l : length used ≡ 8 * words = ap length e ∙ omega (arith, length-take (8 * words) content) in
    omega arith
