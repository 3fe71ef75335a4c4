-- A list of numbers, copied, has the words that were read, the last one masked: zero bits follow the last element.
use native.Mathlib.Nat.{pow-zero, pow-suc, pow-le-pow_right}
use Rattle.std.proofs.Math.Arith.{mod-mul}
use Rattle.std.proofs.Math.Pow.{shl_exact}
use Rattle.std.proofs.Math.Nat.{mod-eq_of_lt, mul_comm}
use Rattle.std.proofs.lemmas.Nat.{pow_pos, pow-add}
use Rattle.std.proofs.lemmas.List.{get_or-take, get_or-drop, get_or_past}
use Rattle.std.proofs.lemmas.Option.{slice_get_cases}
use Rattle.std.proofs.Common.{◌≡◌, ℕ, zero, suc, ◌+◌, ◌-◌, ◌*◌, ◌/◌, ◌%◌, ◌^◌, ◌<◌, ◌≤◌, List, [], ◌∷◌, ◌++◌, length, take, drop, Some, slice_get, slice_index_or, inl, inr, refl, sym, ◌∙◌}
use Rattle.std.proofs.Common.{All, ap, arith, length-append, length-take, length-drop, lit<}
use Rattle.capnp_layout.specs.Prelude.{digits, number_of, words_from, width, words_for, numbers, elements, own, put}
use Rattle.capnp_layout.proofs.words.DigitsToNumberAndBackLemmas.{length-digits, pow-mul}
use Rattle.capnp_layout.proofs.objects.ByteListElementLemmas.{low_digit, high_digits, digits_back}
use Rattle.capnp_layout.proofs.words.LengthWithoutTrailingZerosLemmas.{take_more, get_after}
use Rattle.capnp_layout.proofs.layouts.PutWordsCombinedLemmas.{put_parts, put_inside}

-- the lowest digit of a remainder, and those above it
split_mod : (base m x : ℕ) → 0 < base → 0 < m → x % (base * m) ≡ x % base + base * (x / base % m)
split_mod base m x positive some =
    let swap : m * base ≡ base * m = mul_comm m base in
    let flip : (x / base % m) * base ≡ base * (x / base % m) = mul_comm (x / base % m) base in
    ap (λ (n : ℕ). x % n) (sym swap) ∙ mod-mul x some positive ∙ omega arith

mod_below : (x base : ℕ) → 0 < base → x % base < base
mod_below x base positive = omega arith

low_mod : (base m x : ℕ) → 0 < base → 0 < m → x % (base * m) % base ≡ x % base
low_mod base m x positive some = ap (λ (n : ℕ). n % base) (split_mod base m x positive some) ∙ low_digit base (x % base) (x / base % m) (mod_below x base positive)

high_mod : (base m x : ℕ) → 0 < base → 0 < m → x % (base * m) / base ≡ x / base % m
high_mod base m x positive some = ap (λ (n : ℕ). n / base) (split_mod base m x positive some) ∙ high_digits base (x % base) (x / base % m) (mod_below x base positive)

mul_positive : (a b : ℕ) → 0 < a → 0 < b → 0 < a * b
mul_positive zero b p q = absurd (omega arith)
mul_positive (suc a) b p q = let least : 0 ≤ a * b = omega arith in let split : suc a * b ≡ b + a * b = omega arith in omega arith

power_positive : (base n : ℕ) → 0 < base → 0 < base ^ n
power_positive base zero positive = rw pow-zero (omega arith)
power_positive base (suc n) positive = let rest = power_positive base n positive in rw (pow-suc base n) (mul_positive (base ^ n) base rest positive)

-- the number of the n lowest digits
pub number_mod : (base n x : ℕ) → 0 < base → number_of base (digits base n x) ≡ x % base ^ n
number_mod base zero x positive = let one : base ^ 0 ≡ 1 = pow-zero base in rw one (omega arith)
number_mod base (suc n) x positive =
    let more : base ^ suc n ≡ base * base ^ n = pow-suc base n ∙ mul_comm (base ^ n) base in
    rw (more, number_mod base n (x / base) positive) (sym (split_mod base (base ^ n) x positive (power_positive base n positive)))

-- digits of a number with no digits above them
pub digits_mod : (base n x : ℕ) → 0 < base → digits base n (x % base ^ n) ≡ digits base n x
digits_mod base zero x positive = refl
digits_mod base (suc n) x positive =
    let more : base ^ suc n ≡ base * base ^ n = pow-suc base n ∙ mul_comm (base ^ n) base in
    let some = power_positive base n positive in
    rw (more, low_mod base (base ^ n) x positive some, high_mod base (base ^ n) x positive some) (ap (λ (l : List ℕ). x % base ∷ l) (digits_mod base n (x / base) positive))

few_bits : (r : ℕ) → r ≤ 64 → 2 ^ r ≤ 2 ^ 64
few_bits r few = pow-le-pow_right (omega arith) few

-- the last word keeps its r lowest bits
pub masked : (front : List ℕ) (last r : ℕ) → ((i : ℕ) → slice_index_or front i 0 < 2 ^ 64) → r ≤ 64
    → digits (2 ^ 64) (length front + 1) (number_of (2 ^ 64) (front ++ last ∷ []) % 2 ^ (64 * length front + r)) ≡ front ++ last % 2 ^ r ∷ []
masked [] last r small few =
    let bits : 64 * 0 + r ≡ r = omega arith in
    let alone : last + 2 ^ 64 * 0 ≡ last = omega arith in
    let below : last % 2 ^ r < 2 ^ r = mod_below last (2 ^ r) (pow_pos r) in
    let most : 2 ^ r ≤ 2 ^ 64 = few_bits r few in
    let kept : last % 2 ^ r % 2 ^ 64 ≡ last % 2 ^ r = mod-eq_of_lt (omega arith) in
    rw (bits, alone) (ap (λ (n : ℕ). n ∷ []) kept)
masked (w ∷ front) last r small few =
    let l : ℕ = length front in
    let x : ℕ = number_of (2 ^ 64) (front ++ last ∷ []) in
    let bits : 64 * length (w ∷ front) + r ≡ 64 + (64 * length front + r) = omega arith in
    let power : 2 ^ (64 + (64 * length front + r)) ≡ 2 ^ 64 * 2 ^ (64 * length front + r) = pow-add 2 64 (64 * length front + r) in
    let more : length (w ∷ front) + 1 ≡ suc (length front + 1) = omega arith in
    let some : 0 < 2 ^ (64 * length front + r) = pow_pos (64 * length front + r) in
    let low : (w + 2 ^ 64 * number_of (2 ^ 64) (front ++ last ∷ [])) % (2 ^ 64 * 2 ^ (64 * length front + r)) % 2 ^ 64 ≡ w =
    low_mod (2 ^ 64) (2 ^ (64 * length front + r)) (w + 2 ^ 64 * number_of (2 ^ 64) (front ++ last ∷ [])) (lit< tt) some ∙ low_digit (2 ^ 64) w (number_of (2 ^ 64) (front ++ last ∷ [])) (small 0) in
    let high : (w + 2 ^ 64 * number_of (2 ^ 64) (front ++ last ∷ [])) % (2 ^ 64 * 2 ^ (64 * length front + r)) / 2 ^ 64 ≡ number_of (2 ^ 64) (front ++ last ∷ []) % 2 ^ (64 * length front + r) =
    high_mod (2 ^ 64) (2 ^ (64 * length front + r)) (w + 2 ^ 64 * number_of (2 ^ 64) (front ++ last ∷ [])) (lit< tt) some
    ∙ ap (λ (n : ℕ). n % 2 ^ (64 * length front + r)) (high_digits (2 ^ 64) w (number_of (2 ^ 64) (front ++ last ∷ [])) (small 0)) in
    rw (bits, power, more, low, high) (ap (λ (l : List ℕ). w ∷ l) (masked front last r (λ i. small (suc i)) few))

-- what a list's own words are
pub elements_own : (words : List ℕ) (start code n : ℕ) → own (numbers code (elements words start code n)) []
    ≡ digits (2 ^ 64) (words_for n (width code)) (number_of (2 ^ 64) (words_from words start (words_for n (width code))) % 2 ^ (width code * n))
elements_own words start code n =
    let x : ℕ = number_of (2 ^ 64) (words_from words start (words_for n (width code))) in
    let long : length (elements words start code n) ≡ n = length-digits (2 ^ width code) n (number_of (2 ^ 64) (words_from words start (words_for n (width code)))) in
    let value : number_of (2 ^ width code) (elements words start code n) ≡ number_of (2 ^ 64) (words_from words start (words_for n (width code))) % 2 ^ (width code * n) =
    number_mod (2 ^ width code) n (number_of (2 ^ 64) (words_from words start (words_for n (width code)))) (pow_pos (width code))
    ∙ ap (λ (k : ℕ). number_of (2 ^ 64) (words_from words start (words_for n (width code))) % k) (sym (pow-mul 2 (width code) n)) in
    ap (λ (k : ℕ). digits (2 ^ 64) (words_for k (width code)) (number_of (2 ^ width code) (elements words start code n))) long
    ∙ ap (digits (2 ^ 64) (words_for n (width code))) value

part_below : (words : List ℕ) (start k : ℕ) → ((i : ℕ) → slice_index_or words i 0 < 2 ^ 64) → (i : ℕ) → slice_index_or (words_from words start k) i 0 < 2 ^ 64
part_below words start k small i =
    elim (slice_get_cases (words_from words start k) i).1 [
      | inl found ↦ (let within : i < k = omega (arith, found.1, length-take k (drop start words)) in rw (get_or-take, get_or-drop) (small (start + i)))
      | inr past ↦ rw (get_or_past (words_from words start k) i 0 past.0) (lit< tt)
    ]

-- no bits are left after the last element
pub no_bits_left : (words : List ℕ) (start code n : ℕ) → ((i : ℕ) → slice_index_or words i 0 < 2 ^ 64) → start + words_for n (width code) ≤ length words → n * width code % 64 ≡ 0
    → own (numbers code (elements words start code n)) [] ≡ words_from words start (words_for n (width code))
no_bits_left words start code n small room none =
    let k : ℕ = words_for n (width code) in
    let ws : List ℕ = words_from words start (words_for n (width code)) in
    let long : length (words_from words start (words_for n (width code))) ≡ words_for n (width code) = omega (
      arith,
      length-take (words_for n (width code))
          (drop start words),
      length-drop start words,
    ) in
    let swap : width code * n ≡ n * width code = mul_comm (width code) n in
    let bits : width code * n ≡ 64 * words_for n (width code) = omega arith in
    let power : 2 ^ (width code * n) ≡ (2 ^ 64) ^ words_for n (width code) = ap (λ (b : ℕ). 2 ^ b) bits ∙ pow-mul 2 64 (words_for n (width code)) in
    elements_own words start code n ∙ ap (λ (p : ℕ). digits (2 ^ 64) (words_for n (width code)) (number_of (2 ^ 64) (words_from words start (words_for n (width code))) % p)) power
    ∙ digits_mod (2 ^ 64) (words_for n (width code)) (number_of (2 ^ 64) (words_from words start (words_for n (width code)))) (lit< tt)
    ∙ ap (λ (j : ℕ). digits (2 ^ 64) j (number_of (2 ^ 64) (words_from words start (words_for n (width code))))) (sym long)
    ∙ digits_back (2 ^ 64) (words_from words start (words_for n (width code))) (part_below words start (words_for n (width code)) small)

-- some bits are left
pub part_word : (words : List ℕ) (start code n last : ℕ) → ((i : ℕ) → slice_index_or words i 0 < 2 ^ 64) → start + words_for n (width code) ≤ length words → 0 < n * width code % 64
    → slice_get words (start + words_for n (width code) - 1) ≡ Some last → (slot : ℕ) (block : List ℕ) → slot + words_for n (width code) ≤ length block
    → put (slot + words_for n (width code) - 1) (last % 2 ^ (n * width code % 64) ∷ []) (put slot (words_from words start (words_for n (width code))) block)
    ≡ put slot (own (numbers code (elements words start code n)) []) block
part_word words start code n last small room some there slot block fits =
    let k : ℕ = words_for n (width code) in
    let j : ℕ = words_for n (width code) - 1 in
    let r : ℕ = n * width code % 64 in
    let next : words_for n (width code) ≡ suc (words_for n (width code) - 1) = omega arith in
    let front : List ℕ = words_from words start (words_for n (width code) - 1) in
    let front_long : length (words_from words start (words_for n (width code) - 1)) ≡ words_for n (width code) - 1 = omega (
      arith,
      length-take (words_for n (width code) - 1)
          (drop start words),
      length-drop start words,
    ) in
    let here : start + words_for n (width code) - 1 ≡ start + (words_for n (width code) - 1) = omega arith in
    let last_is : slice_get (drop start words) (words_for n (width code) - 1) ≡ Some last = get_after start (words_for n (width code) - 1) words last (ap (λ (i : ℕ). slice_get words i)
    (sym here) ∙ there) in
    let parts : words_from words start (words_for n (width code)) ≡ front ++ last ∷ [] = ap (λ (i : ℕ). take i (drop start words)) next
    ∙ take_more (words_for n (width code) - 1) (drop start words) last last_is in
    let swap : width code * n ≡ n * width code = mul_comm (width code) n in
    let bits : width code * n ≡ 64 * length front + n * width code % 64 = omega arith in
    let count : words_for n (width code) ≡ length front + 1 = omega arith in
    let own_is : own (numbers code (elements words start code n)) [] ≡ front ++ last % 2 ^ (n * width code % 64) ∷ [] =
    elements_own words start code n
    ∙ ap (λ (l : List ℕ). digits (2 ^ 64) (words_for n (width code)) (number_of (2 ^ 64) l % 2 ^ (width code * n))) parts
    ∙ ap (λ (b : ℕ). digits (2 ^ 64) (words_for n (width code)) (number_of (2 ^ 64) (front ++ last ∷ []) % 2 ^ b)) bits
    ∙ ap (λ (i : ℕ). digits (2 ^ 64) i (number_of (2 ^ 64) (front ++ last ∷ []) % 2 ^ (64 * length front + n * width code % 64))) count
    ∙ masked front last (n * width code % 64) (part_below words start (words_for n (width code) - 1) small) (omega arith) in
    let slot_is : slot + words_for n (width code) - 1 ≡ slot + (words_for n (width code) - 1) = omega arith in
    let whole_long : length (front ++ last ∷ []) ≡ words_for n (width code) = omega (arith, length-append front (last ∷ [])) in
    let changed : put (words_for n (width code) - 1) (last % 2 ^ (n * width code % 64) ∷ []) (front ++ (last ∷ [] ++ [])) ≡ front ++ (last % 2 ^ (n * width code % 64) ∷ [] ++ []) =
    put_parts front (last ∷ []) [] (last % 2 ^ (n * width code % 64) ∷ []) (words_for n (width code) - 1) front_long refl in
    ap (λ (i : ℕ). put i (last % 2 ^ (n * width code % 64) ∷ []) (put slot (words_from words start (words_for n (width code))) block)) slot_is
    ∙ ap (λ (l : List ℕ). put (slot + (words_for n (width code) - 1)) (last % 2 ^ (n * width code % 64) ∷ []) (put slot l block)) parts
    ∙ put_inside slot (words_for n (width code) - 1) (last % 2 ^ (n * width code % 64) ∷ []) (front ++ last ∷ []) block (omega arith) (omega arith)
    ∙ ap (λ (l : List ℕ). put slot l block) (changed ∙ sym own_is)

-- 1 shifted by fewer bits than a word has
pub shifted : (r : ℕ) → r < 64 → (1 * 2 ^ r) % 2 ^ 64 ≡ 2 ^ r
shifted r few = shl_exact 1 r 64 (lit< tt) (omega arith) ∙ omega arith

-- words that are there are below 2 ^ 64, and so is what is read in place of others
pub any_below : (words : List ℕ) → All (λ w. w < 2 ^ 64) words → (i : ℕ) → slice_index_or words i 0 < 2 ^ 64
any_below [] all i = omega arith
any_below (word ∷ words) all zero = all 0 0 (omega arith)
any_below (word ∷ words) all (suc i) = any_below words (λ k d within. all (suc k) d (omega arith)) i
