-- The elements of a list of bytes are its bytes. The words that bytes make are below 2 ^ 64.
use Rattle.std.proofs.lemmas.List.{take-take, get_or-take, get_or-drop, get_or_past}
use Rattle.std.proofs.lemmas.Option.{slice_get_cases}
use native.Mathlib.Nat.{pow-suc, add-mul-div_left}
use Rattle.std.proofs.Math.Nat.{add-mul-mod_self_left, div-eq_of_lt, mod-eq_of_lt}
use Rattle.std.proofs.Common.{◌≡◌, ℕ, zero, suc, ◌+◌, ◌*◌, ◌/◌, ◌%◌, ◌^◌, ◌<◌, ◌≤◌, List, [], ◌∷◌, length, map, take, drop, slice_index_or, refl, sym, ◌∙◌, ap, subst, inl, inr, lit<, arith}
use Rattle.std.proofs.Common.{length-take, length-drop}
use Rattle.std.specs.Prelude.{All}
use Rattle.std.specs.Simd.{first_chunks}
use Rattle.capnp_layout.specs.Prelude.{digits, number_of, words_of, words_from, words_for, elements}
use Rattle.capnp_layout.proofs.words.WordsOfBytesLemmas.{numbers_from, bytes_back}

part_fits : (bytes : List ℕ) (start k : ℕ) → ((i : ℕ) → slice_index_or bytes i 0 < 256) → (i : ℕ) → slice_index_or (take (8 * k) (drop (8 * start) bytes)) i 0 < 256
part_fits bytes start k fits i =
    let rest = drop (8 * start) bytes in
    elim (slice_get_cases (take (8 * k) rest) i).1 [
      | inl found ↦ (let within : i < 8 * k = omega (arith, found.1, length-take (8 * k) rest) in rw (get_or-take, get_or-drop) (fits (8 * start + i)))
      | inr past ↦ rw (get_or_past (take (8 * k) rest) i 0 past.0) (lit< tt)
    ]

-- the elements of a list of bytes are its bytes
pub elements_are_bytes : (bytes : List ℕ) (start n : ℕ) → ((i : ℕ) → slice_index_or bytes i 0 < 256) → start + words_for n 8 ≤ length bytes / 8
    → take n (drop (8 * start) bytes) ≡ elements (words_of bytes) start 2 n
elements_are_bytes bytes start n fits room =
    let k = words_for n 8 in
    let part = take (8 * k) (drop (8 * start) bytes) in
    let whole : number_of (2 ^ 64) (words_from (words_of bytes) start k) ≡ number_of 256 part = numbers_from start k (length bytes / 8) bytes room (omega arith) in
    let enough : n ≤ length part = omega (arith, length-take (8 * k) (drop (8 * start) bytes), length-drop (8 * start) bytes) in
    let back : digits 256 n (number_of 256 part) ≡ take n part = bytes_back n part enough (part_fits bytes start k fits) in
    let front : take n part ≡ take n (drop (8 * start) bytes) = take-take n (8 * k) (drop (8 * start) bytes) (omega arith) in
    sym (ap (digits 256 n) whole ∙ back ∙ front)

-- digits, each below the base, are the digits of the number that they make
pub low_digit : (base d x : ℕ) → d < base → (d + base * x) % base ≡ d
low_digit base d x small = add-mul-mod_self_left d base x ∙ mod-eq_of_lt small

pub high_digits : (base d x : ℕ) → d < base → (d + base * x) / base ≡ x
high_digits base d x small =
    let none : d / base ≡ 0 = div-eq_of_lt small in
    let positive : 0 < base = omega arith in
    let split : (d + base * x) / base ≡ d / base + x = add-mul-div_left d x positive in
    omega arith

pub digits_back : (base : ℕ) (ds : List ℕ) → ((i : ℕ) → slice_index_or ds i 0 < base) → digits base (length ds) (number_of base ds) ≡ ds
digits_back base [] small = refl
digits_back base (d ∷ ds) small =
    rw (low_digit base d (number_of base ds) (small 0), high_digits base d (number_of base ds) (small 0))
    (ap (λ (l : List ℕ). d ∷ l) (digits_back base ds (λ i. small (suc i))))

-- n bytes make a number of n bytes
number_below : (n : ℕ) (bytes : List ℕ) → ((i : ℕ) → slice_index_or bytes i 0 < 256) → number_of 256 (take n bytes) < 256 ^ n
number_below zero bytes fits = lit< tt
number_below (suc n) [] fits = rw (pow-suc 256 n) (omega (arith, number_below n [] fits))
number_below (suc n) (x ∷ xs) fits =
    let rest = number_below n xs (λ i. fits (suc i)) in
    rw (pow-suc 256 n) (omega (arith, fits 0, rest))

chunk_below : (k : ℕ) (bytes : List ℕ) → ((i : ℕ) → slice_index_or bytes i 0 < 256) → (i : ℕ) → slice_index_or (map (number_of 256) (first_chunks 8 k bytes)) i 0 < 2 ^ 64
chunk_below zero bytes fits i = lit< tt
chunk_below (suc k) bytes fits zero = number_below 8 bytes fits
chunk_below (suc k) bytes fits (suc i) = chunk_below k (drop 8 bytes) (λ j. rw get_or-drop (fits (8 + j))) i

pub words_below : (bytes : List ℕ) → ((i : ℕ) → slice_index_or bytes i 0 < 256) → (i : ℕ) → slice_index_or (words_of bytes) i 0 < 2 ^ 64
words_below bytes fits i = chunk_below (length bytes / 8) bytes fits i

-- every word of some bytes is below 2 ^ 64
default_same : (xs : List ℕ) (k e : ℕ) → k < length xs → slice_index_or xs k e ≡ slice_index_or xs k 0
default_same [] k e within = absurd (omega arith)
default_same (x ∷ xs) zero e within = refl
default_same (x ∷ xs) (suc k) e within = default_same xs k e (omega arith)

pub all_words_below : (bytes : List ℕ) → ((i : ℕ) → slice_index_or bytes i 0 < 256) → All (λ w. w < 2 ^ 64) (words_of bytes)
all_words_below bytes fits = λ k e within. subst (λ (w : ℕ). w < 2 ^ 64) (sym (default_same (words_of bytes) k e within)) (words_below bytes fits k)
