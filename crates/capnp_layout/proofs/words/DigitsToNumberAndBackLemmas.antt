-- From a number to its digits and back, and from digits to their number and back. Numbers of few bits, as words.
use native.Mathlib.Nat.{mul-suc, pow-zero, pow-suc, mul-zero, pow-le-pow_right}
use Rattle.std.proofs.Math.Nat.{div-add-mod, mul_comm, mul-le-mul_left}
use Rattle.std.proofs.lemmas.Nat.{div_below, pow-add}
use Rattle.std.proofs.lemmas.List.Elements.{All-head, All-tail}
use Rattle.std.proofs.Common.{◌≡◌, ℕ, zero, suc, ◌+◌, ◌*◌, ◌/◌, ◌%◌, ◌^◌, ◌<◌, ◌≤◌, List, [], ◌∷◌, length, refl, ap, arith}
use Rattle.std.specs.Prelude.{All}
use Rattle.capnp_layout.specs.Prelude.{digits, number_of, words_for}
use Rattle.capnp_layout.proofs.objects.ByteListElementLemmas.{low_digit, high_digits}

pub length-digits : (base n x : ℕ) → length (digits base n x) ≡ n
length-digits base zero x = refl
length-digits base (suc n) x = ap (λ (k : ℕ). suc k) (length-digits base n (x / base))

pub digits-number_of : (base : ℕ) (ds : List ℕ) → All (λ d. d < base) ds → digits base (length ds) (number_of base ds) ≡ ds
digits-number_of base [] fits = refl
digits-number_of base (d ∷ ds) fits =
    let small : d < base = All-head (λ d. d < base) d ds fits in
    rw (low_digit base d (number_of base ds) small, high_digits base d (number_of base ds) small) (ap (λ (l : List ℕ). d ∷ l) (digits-number_of base ds (All-tail (λ d. d < base) d ds fits)))

one_more : (base d n m : ℕ) → d < base → n < m → d + base * n < m * base
one_more base d n m small less =
    let k : base * suc n ≤ base * m = mul-le-mul_left base less in
    omega arith

pub number_below : (base : ℕ) (ds : List ℕ) → All (λ d. d < base) ds → number_of base ds < base ^ length ds
number_below base [] fits = rw pow-zero (omega arith)
number_below base (d ∷ ds) fits =
    let small : d < base = All-head (λ d. d < base) d ds fits in
    let rest : number_of base ds < base ^ length ds = number_below base ds (All-tail (λ d. d < base) d ds fits) in
    rw (pow-suc base (length ds)) (one_more base d (number_of base ds) (base ^ length ds) small rest)

pub number-digits : (base n x : ℕ) → 0 < base → x < base ^ n → number_of base (digits base n x) ≡ x
number-digits base zero x positive below = omega (arith, pow-zero base)
number-digits base (suc n) x positive below =
    let less : x / base < base ^ n = div_below x base (base ^ n) positive (rw (pow-suc base n) at below) in
    let split : base * (x / base) + x % base ≡ x = div-add-mod x base in
    rw (number-digits base n (x / base) positive less) (omega arith)

-- powers of powers
pub pow-mul : (b i j : ℕ) → b ^ (i * j) ≡ (b ^ i) ^ j
pow-mul b i zero = rw (pow-zero, mul-zero, pow-zero) refl
pow-mul b i (suc j) = rw (pow-suc, mul-suc, pow-add, pow-mul b i j) refl

room_bits : (bits n : ℕ) → bits * n ≤ 64 * words_for n bits
room_bits bits n = let swap : n * bits ≡ bits * n = mul_comm n bits in omega arith

-- the words of some numbers contain them
pub room_for : (bits n : ℕ) → (2 ^ bits) ^ n ≤ (2 ^ 64) ^ words_for n bits
room_for bits n =
    let few : bits * n ≤ 64 * words_for n bits = room_bits bits n in
    rw (← pow-mul 2 bits n, ← pow-mul 2 64 (words_for n bits)) (pow-le-pow_right (omega arith) few)

pub numbers_back : (bits : ℕ) (values : List ℕ) → All (λ v. v < 2 ^ bits) values
    → digits (2 ^ bits) (length values) (number_of (2 ^ 64) (digits (2 ^ 64) (words_for (length values) bits) (number_of (2 ^ bits) values))) ≡ values
numbers_back bits values fits =
    let below = number_below (2 ^ bits) values fits in
    let room = room_for bits (length values) in
    let back = number-digits (2 ^ 64) (words_for (length values) bits) (number_of (2 ^ bits) values) (omega arith) (omega arith) in
    rw back (digits-number_of (2 ^ bits) values fits)
