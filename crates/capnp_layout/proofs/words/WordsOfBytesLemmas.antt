-- The words that bytes make, eight bytes each: which word is at an index, how many there are, and that they make
-- the same number.
use Rattle.std.proofs.lemmas.List.{drop-drop}
use Rattle.std.proofs.Math.Seq.{take-nil}
use native.Mathlib.Nat.{pow-zero, pow-suc, one-mul}
use Rattle.std.proofs.Common.{zero-add, suc-add, ◌≡◌, ℕ, zero, suc, ◌+◌, ◌*◌, ◌/◌, ◌%◌, ◌^◌, ◌<◌, ◌≤◌, List, [], ◌∷◌, ◌++◌, length, map, take, drop, Some, None, slice_get, slice_index_or}
use Rattle.std.proofs.Common.{w64, refl, sym, ◌∙◌, ap, arith, length-take, length-drop}
use Rattle.std.specs.Int.{from_le_bytes}
use Rattle.std.specs.Simd.{first_chunks}
use Rattle.capnp_layout.specs.Prelude.{digits, number_of, words_of}

-- eight bytes are a word
pub number_of_eight : (bytes : List ℕ) → length bytes ≡ 8 → number_of 256 bytes ≡ from_le_bytes w64 bytes
number_of_eight (a ∷ b ∷ c ∷ d ∷ e ∷ f ∷ g ∷ h ∷ []) eight = omega arith
number_of_eight [] eight = absurd (omega arith)
number_of_eight (a ∷ []) eight = absurd (omega arith)
number_of_eight (a ∷ b ∷ []) eight = absurd (omega arith)
number_of_eight (a ∷ b ∷ c ∷ []) eight = absurd (omega arith)
number_of_eight (a ∷ b ∷ c ∷ d ∷ []) eight = absurd (omega arith)
number_of_eight (a ∷ b ∷ c ∷ d ∷ e ∷ []) eight = absurd (omega arith)
number_of_eight (a ∷ b ∷ c ∷ d ∷ e ∷ f ∷ []) eight = absurd (omega arith)
number_of_eight (a ∷ b ∷ c ∷ d ∷ e ∷ f ∷ g ∷ []) eight = absurd (omega arith)
number_of_eight (a ∷ b ∷ c ∷ d ∷ e ∷ f ∷ g ∷ h ∷ i ∷ rest) eight = absurd (omega arith)

-- the i-th of some words
pub word_of_chunk : (k : ℕ) (bytes : List ℕ) (i : ℕ) (chunk : List ℕ) → 8 * k ≤ length bytes → i < k
    → slice_get (map (number_of 256) (first_chunks 8 k bytes)) i ≡ Some (from_le_bytes w64 (slice_index_or (first_chunks 8 k bytes) i chunk))
word_of_chunk zero bytes i chunk room within = absurd (omega arith)
word_of_chunk (suc k) bytes zero chunk room within = ap Some (number_of_eight (take 8 bytes) (omega (arith, length-take 8 bytes)))
word_of_chunk (suc k) bytes (suc i) chunk room within = word_of_chunk k (drop 8 bytes) i chunk (omega (arith, length-drop 8 bytes)) (omega arith)

pub no_word : (k : ℕ) (bytes : List ℕ) (i : ℕ) → k ≤ i → slice_get (map (number_of 256) (first_chunks 8 k bytes)) i ≡ None
no_word zero bytes i past = refl
no_word (suc k) bytes zero past = absurd (omega arith)
no_word (suc k) bytes (suc i) past = no_word k (drop 8 bytes) i (omega arith)

pub take-add : (n m : ℕ) (xs : List ℕ) → take (n + m) xs ≡ take n xs ++ take m (drop n xs)
take-add zero m xs = rw zero-add
take-add (suc n) m [] = rw (suc-add, take-nil) (sym (take-nil m))
take-add (suc n) m (x ∷ xs) = rw suc-add (ap (λ (l : List ℕ). x ∷ l) (take-add n m xs))

pub number-append : (base : ℕ) (xs ys : List ℕ) → number_of base (xs ++ ys) ≡ number_of base xs + base ^ length xs * number_of base ys
number-append base [] ys = rw (pow-zero, one-mul, zero-add) refl
number-append base (x ∷ xs) ys = rw (number-append base xs ys, pow-suc base (length xs)) (omega arith)

-- the bytes of some words from a start on, as one number, are these words as one number
numbers_first : (k t : ℕ) (bytes : List ℕ) → k ≤ t → 8 * t ≤ length bytes
    → number_of (2 ^ 64) (take k (map (number_of 256) (first_chunks 8 t bytes))) ≡ number_of 256 (take (8 * k) bytes)
numbers_first zero t bytes le room = refl
numbers_first (suc k) zero bytes le room = absurd (omega arith)
numbers_first (suc k) (suc t) bytes le room =
    let rest = numbers_first k t (drop 8 bytes) (omega arith) (omega (arith, length-drop 8 bytes)) in
    let split : take (8 * suc k) bytes ≡ take 8 bytes ++ take (8 * k) (drop 8 bytes) = ap (λ (n : ℕ). take n bytes) (omega arith) ∙ take-add 8 (8 * k) bytes in
    let eight : length (take 8 bytes) ≡ 8 = omega (arith, length-take 8 bytes) in
    rw (split, number-append, eight, ← rest) refl

pub numbers_from : (s k t : ℕ) (bytes : List ℕ) → s + k ≤ t → 8 * t ≤ length bytes
    → number_of (2 ^ 64) (take k (drop s (map (number_of 256) (first_chunks 8 t bytes)))) ≡ number_of 256 (take (8 * k) (drop (8 * s) bytes))
numbers_from zero k t bytes le room = numbers_first k t bytes (omega arith) room
numbers_from (suc s) k zero bytes le room = absurd (omega arith)
numbers_from (suc s) k (suc t) bytes le room =
    let rest = numbers_from s k t (drop 8 bytes) (omega arith) (omega (arith, length-drop 8 bytes)) in
    let split : drop (8 * s) (drop 8 bytes) ≡ drop (8 * suc s) bytes = drop-drop (8 * s) 8 bytes ∙ ap (λ (n : ℕ). drop n bytes) (omega arith) in
    rest ∙ ap (λ (l : List ℕ). number_of 256 (take (8 * k) l)) split

-- the digits of the number of some bytes are these bytes
pub bytes_back : (n : ℕ) (bytes : List ℕ) → n ≤ length bytes → ((i : ℕ) → slice_index_or bytes i 0 < 256) → digits 256 n (number_of 256 bytes) ≡ take n bytes
bytes_back zero bytes le fits = refl
bytes_back (suc n) [] le fits = absurd (omega arith)
bytes_back (suc n) (x ∷ xs) le fits =
    let low : (x + 256 * number_of 256 xs) % 256 ≡ x = omega (arith, fits 0) in
    let high : (x + 256 * number_of 256 xs) / 256 ≡ number_of 256 xs = omega (arith, fits 0) in
    rw (low, high) (ap (λ (l : List ℕ). x ∷ l) (bytes_back n xs (omega arith) (λ i. fits (suc i))))

length-chunks : (k : ℕ) (bytes : List ℕ) → length (map (number_of 256) (first_chunks 8 k bytes)) ≡ k
length-chunks zero bytes = refl
length-chunks (suc k) bytes = ap (λ (n : ℕ). suc n) (length-chunks k (drop 8 bytes))

pub length-words_of : (bytes : List ℕ) → length (words_of bytes) ≡ length bytes / 8
length-words_of bytes = length-chunks (length bytes / 8) bytes

-- equal lists of words begin with the same word, and go on with the same words
pub heads : {a b : ℕ} {xs ys : List ℕ} → a ∷ xs ≡ b ∷ ys → a ≡ b
heads e = cc

pub tails : {a b : ℕ} {xs ys : List ℕ} → a ∷ xs ≡ b ∷ ys → xs ≡ ys
tails e = cc
