-- The word, or the digit, at an index of a number, by division, and which bits of the number these are.
use Rattle.std.proofs.Math.Nat.{div-div-eq-div-mul, zero-div, pow-succ'}
use Rattle.std.proofs.Math.Pow.{mod-mod-pow}
use Rattle.std.proofs.lemmas.Nat.{mod-pow-add, pow_pos}
use Rattle.std.proofs.lemmas.List.Elements.{All-head, All-tail}
use Rattle.std.proofs.Common.{◌≡◌, ℕ, zero, suc, ◌+◌, ◌-◌, ◌*◌, ◌/◌, ◌%◌, ◌^◌, ◌<◌, ◌≤◌, List, [], ◌∷◌, slice_index_or, refl, sym, ◌∙◌, ap, arith}
use native.Mathlib.Nat.{pow-zero}
use Rattle.std.specs.Prelude.{All}
use Rattle.capnp_layout.specs.Prelude.{digits, number_of}
use Rattle.capnp_layout.proofs.objects.ByteListElementLemmas.{low_digit, high_digits}

-- a word among some words
pub word_in_number : (words : List ℕ) (q : ℕ) → All (λ w. w < 2 ^ 64) words → number_of (2 ^ 64) words / (2 ^ 64) ^ q % 2 ^ 64 ≡ slice_index_or words q 0
word_in_number [] q small = rw (zero-div ((2 ^ 64) ^ q)) refl
word_in_number (word ∷ words) zero small =
    let first : word < 2 ^ 64 = All-head (λ w. w < 2 ^ 64) word words small in
    let whole : number_of (2 ^ 64) (word ∷ words) / (2 ^ 64) ^ zero ≡ word + 2 ^ 64 * number_of (2 ^ 64) words = rw pow-zero (omega arith) in
    ap (λ (k : ℕ). k % 2 ^ 64) whole ∙ low_digit (2 ^ 64) word (number_of (2 ^ 64) words) first
word_in_number (word ∷ words) (suc q) small =
    let first : word < 2 ^ 64 = All-head (λ w. w < 2 ^ 64) word words small in
    let split : number_of (2 ^ 64) (word ∷ words) / (2 ^ 64) ^ suc q ≡ number_of (2 ^ 64) words / (2 ^ 64) ^ q =
    ap (λ (k : ℕ). number_of (2 ^ 64) (word ∷ words) / k) (pow-succ' (2 ^ 64) q) ∙ sym (div-div-eq-div-mul (number_of (2 ^ 64) (word ∷ words)) (2 ^ 64) ((2 ^ 64) ^ q))
    ∙ ap (λ (k : ℕ). k / (2 ^ 64) ^ q) (high_digits (2 ^ 64) word (number_of (2 ^ 64) words) first) in
    ap (λ (k : ℕ). k % 2 ^ 64) split ∙ word_in_number words q (All-tail (λ w. w < 2 ^ 64) word words small)

-- a number of units, and less than one more
quotient : (a b unit : ℕ) → b < unit → (a * unit + b) / unit ≡ a
quotient a b unit small = ap (λ (k : ℕ). k / unit) (omega arith) ∙ high_digits unit b a small

-- some bits of a number are bits of its lowest ones
cut_bits : (n r w : ℕ) → n % 2 ^ (w + r) / 2 ^ r ≡ n / 2 ^ r % 2 ^ w
cut_bits n r w =
    let positive : 0 < 2 ^ r = pow_pos r in
    ap (λ (k : ℕ). k / 2 ^ r) (mod-pow-add n w r) ∙ quotient (n / 2 ^ r % 2 ^ w) (n % 2 ^ r) (2 ^ r) (omega arith)

pub low_bits : (n r w : ℕ) → w + r ≤ 64 → n % 2 ^ 64 / 2 ^ r % 2 ^ w ≡ n / 2 ^ r % 2 ^ w
low_bits n r w within =
    let split : 64 ≡ (64 - (w + r)) + (w + r) = omega arith in
    let same : n % 2 ^ 64 % 2 ^ (w + r) ≡ n % 2 ^ (w + r) =
    ap (λ (k : ℕ). n % 2 ^ k % 2 ^ (w + r)) split ∙ mod-mod-pow n (64 - (w + r)) (w + r) in
    sym (cut_bits (n % 2 ^ 64) r w) ∙ ap (λ (k : ℕ). k / 2 ^ r) same ∙ cut_bits n r w

-- an element of a list of numbers is a field of its words
pub digit_at : (base n x i : ℕ) → i < n → slice_index_or (digits base n x) i 0 ≡ x / base ^ i % base
digit_at base zero x i within = absurd (omega arith)
digit_at base (suc n) x zero within =
    let whole : x / base ^ zero ≡ x = rw pow-zero (omega arith) in
    sym (ap (λ (k : ℕ). k % base) whole)
digit_at base (suc n) x (suc i) within =
    digit_at base n (x / base) i (omega arith) ∙ ap (λ (k : ℕ). k % base) (div-div-eq-div-mul x base (base ^ i) ∙ ap (λ (k : ℕ). x / k) (sym (pow-succ' base i)))
