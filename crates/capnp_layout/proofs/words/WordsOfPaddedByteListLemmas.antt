-- The words of a list of bytes that is padded with zeros to whole words, and of a text with its zero byte.
use Rattle.std.proofs.lemmas.List.{take_all}
use Rattle.std.proofs.Common.{◌≡◌, ℕ, zero, suc, ◌+◌, ◌*◌, ◌/◌, ◌<◌, ◌^◌, List, [], ◌∷◌, ◌++◌, length, take, drop, replicate, slice_index_or, refl, sym, ◌∙◌, ap, arith, length-append, lit<}
use native.Mathlib.Nat.{mul-zero}
use Rattle.capnp_layout.specs.Prelude.{digits, number_of, words_of, words_for, numbers, own}
use Rattle.capnp_layout.proofs.words.WordsOfBytesLemmas.{numbers_from, number-append, length-words_of}
use Rattle.capnp_layout.proofs.objects.ByteListElementLemmas.{digits_back, words_below}

zeros_number : (k : ℕ) → number_of 256 (replicate k 0) ≡ 0
zeros_number zero = refl
zeros_number (suc k) = omega (arith, zeros_number k)

long_zeros : (k : ℕ) → length {A = ℕ} (replicate k 0) ≡ k
long_zeros zero = refl
long_zeros (suc k) = ap (λ (j : ℕ). suc j) (long_zeros k)

pub below_zeros : (bytes : List ℕ) (k i : ℕ) → ((j : ℕ) → slice_index_or bytes j 0 < 256) → slice_index_or (bytes ++ replicate k 0) i 0 < 256
below_zeros [] zero i fits = lit< tt
below_zeros [] (suc k) zero fits = lit< tt
below_zeros [] (suc k) (suc i) fits = below_zeros [] k i fits
below_zeros (b ∷ bytes) k zero fits = fits 0
below_zeros (b ∷ bytes) k (suc i) fits = below_zeros bytes k i (λ j. fits (suc j))

pub words_of_padded : (bytes : List ℕ) (k n : ℕ) → ((j : ℕ) → slice_index_or bytes j 0 < 256) → length bytes + k ≡ 8 * n → words_of (bytes ++ replicate k 0) ≡ digits (2 ^ 64) n (number_of 256 bytes)
words_of_padded bytes k n fits long =
    let whole : List ℕ = bytes ++ replicate k 0 in
    let size : length (bytes ++ replicate k 0) ≡ 8 * n = omega (arith, length-append bytes (replicate k 0), long_zeros k) in
    let words : length (words_of (bytes ++ replicate k 0)) ≡ n = omega (arith, length-words_of (bytes ++ replicate k 0)) in
    let value : number_of (2 ^ 64) (take n (words_of (bytes ++ replicate k 0))) ≡ number_of 256 (take (8 * n) (drop (8 * 0) (bytes ++ replicate k 0))) =
    numbers_from 0 n (length (bytes ++ replicate k 0) / 8) (bytes ++ replicate k 0) (omega arith) (omega arith) in
    let all_words : take n (words_of (bytes ++ replicate k 0)) ≡ words_of (bytes ++ replicate k 0) = take_all n (words_of (bytes ++ replicate k 0)) (omega arith) in
    let all_bytes : take (8 * n) (bytes ++ replicate k 0) ≡ bytes ++ replicate k 0 = take_all (8 * n) (bytes ++ replicate k 0) (omega arith) in
    let zero_more : number_of 256 (bytes ++ replicate k 0) ≡ number_of 256 bytes =
    number-append 256 bytes (replicate k 0) ∙ ap (λ (z : ℕ). number_of 256 bytes + 256 ^ length bytes * z) (zeros_number k)
    ∙ ap (λ (z : ℕ). number_of 256 bytes + z) (mul-zero (256 ^ length bytes)) ∙ omega arith in
    sym (digits_back (2 ^ 64) (words_of (bytes ++ replicate k 0)) (words_below (bytes ++ replicate k 0) (λ i. below_zeros bytes k i fits)))
    ∙ ap (λ (j : ℕ). digits (2 ^ 64) j (number_of (2 ^ 64) (words_of (bytes ++ replicate k 0)))) words
    ∙ ap (digits (2 ^ 64) n) (ap (number_of (2 ^ 64)) (sym all_words) ∙ value ∙ ap (number_of 256) all_bytes ∙ zero_more)

-- text
number_end : (bytes : List ℕ) → number_of 256 (bytes ++ 0 ∷ []) ≡ number_of 256 bytes
number_end [] = refl
number_end (b ∷ bytes) = ap (λ (z : ℕ). b + 256 * z) (number_end bytes)

pub long_end : (bytes : List ℕ) → length (bytes ++ 0 ∷ []) ≡ length bytes + 1
long_end bytes = length-append bytes (0 ∷ [])

pub text_own : (bytes : List ℕ) → digits (2 ^ 64) (words_for (length bytes + 1) 8) (number_of 256 bytes) ≡ own (numbers 2 (bytes ++ 0 ∷ [])) []
text_own bytes =
    ap (digits (2 ^ 64) (words_for (length bytes + 1) 8)) (sym (number_end bytes)) ∙ ap (λ (n : ℕ). digits (2 ^ 64) (words_for n 8) (number_of 256 (bytes ++ 0 ∷ []))) (sym (long_end bytes))
