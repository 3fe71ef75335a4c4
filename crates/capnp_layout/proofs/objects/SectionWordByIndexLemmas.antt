-- The data word and the pointer at an index of a struct's sections, and none past their ends. How many words the
-- first segments of a message have.
use Rattle.std.proofs.Common.{◌≡◌, ℕ, zero, suc, ◌+◌, ◌/◌, ◌<◌, ◌≤◌, List, [], ◌∷◌, length, take, drop, Some, None, slice_index_or, refl, sym, ◌∙◌, ap, arith, length-take, length-drop, slice_get}
use Rattle.std.proofs.lemmas.List.{get_or-take, get_or-drop, get_or_past}
use Rattle.std.proofs.lemmas.Option.{get_or_from_slice_get}
use Rattle.std.proofs.lemmas.List.Sums.{sum_by-cons}
use Rattle.capnp_frame.specs.Prelude.{size_in_words, lengths}
use Rattle.capnp_layout.specs.Prelude.{words_of, words_from, places}
use Rattle.capnp_layout.proofs.words.WordsOfBytesLemmas.{length-words_of}

-- what a struct reader reads
pub length-words_from : (bytes : List ℕ) (start n : ℕ) → start + n ≤ length bytes / 8 → n ≡ length (words_from (words_of bytes) start n)
length-words_from bytes start n room =
    omega (arith, length-take n (drop start (words_of bytes)), length-drop start (words_of bytes), length-words_of bytes)

pub length-places : (segment start n : ℕ) → n ≡ length (places segment start n)
length-places segment start zero = refl
length-places segment start (suc n) = ap (λ (k : ℕ). suc k) (length-places segment (start + 1) n)

pub place_within : (segment start n i : ℕ) → i < n → slice_get (places segment start n) i ≡ Some (record { segment = segment; word = start + i })
place_within segment start zero i within = absurd (omega arith)
place_within segment start (suc n) zero within = ap (λ (w : ℕ). Some (record { segment = segment; word = w })) (omega arith)
place_within segment start (suc n) (suc i) within =
    place_within segment (start + 1) n i (omega arith) ∙ ap (λ (w : ℕ). Some (record { segment = segment; word = w })) (omega arith)

pub no_place_past : (segment start n i : ℕ) → n ≤ i → slice_get (places segment start n) i ≡ None
no_place_past segment start zero i past = refl
no_place_past segment start (suc n) zero past = absurd (omega arith)
no_place_past segment start (suc n) (suc i) past = no_place_past segment (start + 1) n i (omega arith)

pub word_within : (words : List ℕ) (start n i word : ℕ) → i < n → slice_get words (start + i) ≡ Some word → word ≡ slice_index_or (words_from words start n) i 0
word_within words start n i word within e =
    let there = sym (get_or_from_slice_get words (start + i) word 0 e) in
    rw (get_or-take, get_or-drop) there

pub no_word_past : (words : List ℕ) (start n i : ℕ) → n ≤ i → 0 ≡ slice_index_or (words_from words start n) i 0
no_word_past words start n i past = sym (get_or_past (take n (drop start words)) i 0 (omega (arith, length-take n (drop start words))))

-- sizes of messages, one more segment
pub size_more : (segments : List (List ℕ)) (i : ℕ) (bytes : List ℕ) → slice_get segments i ≡ Some bytes
    → size_in_words (take (suc i) segments) ≡ size_in_words (take i segments) + length bytes / 8
size_more [] i bytes e = cc
size_more (x ∷ segments) zero bytes e =
    let same : x ≡ bytes = cc in
    let as_long : length x / 8 ≡ length bytes / 8 = ap (λ (l : List ℕ). length l / 8) same in
    omega (arith, as_long)
size_more (x ∷ segments) (suc i) bytes e =
    let more : size_in_words (take (suc (suc i)) (x ∷ segments)) ≡ length x / 8 + size_in_words (take (suc i) segments) =
    sum_by-cons (λ n. n) (length x / 8) (lengths (take (suc i) segments)) in
    let fewer : size_in_words (take (suc i) (x ∷ segments)) ≡ length x / 8 + size_in_words (take i segments) =
    sum_by-cons (λ n. n) (length x / 8) (lengths (take i segments)) in
    omega (arith, size_more segments i bytes e)

pub size_next : (segments : List (List ℕ)) (i : ℕ) (bytes : List ℕ) → slice_get segments i ≡ Some bytes
    → size_in_words (take (i + 1) segments) ≡ size_in_words (take i segments) + length bytes / 8
size_next segments i bytes e =
    let next : i + 1 ≡ suc i = omega arith in
    ap (λ (n : ℕ). size_in_words (take n segments)) next ∙ size_more segments i bytes e
