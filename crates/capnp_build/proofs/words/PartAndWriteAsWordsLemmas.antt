-- The words of a part of some bytes are that part of their words. Eight bytes that are written over a word replace
-- that word alone.
use Rattle.std.proofs.Common.{◌≡◌, ℕ, zero, suc, ◌+◌, ◌*◌, ◌/◌, ◌^◌, ◌<◌, ◌≤◌, List, ◌∷◌, length, map, take, drop, slice_set, w64, refl, ap, sym}
use Rattle.std.proofs.Common.{◌∙◌, arith, length-take, length-drop}
use Rattle.std.specs.Int.{to_le_bytes}
use Rattle.std.specs.Simd.{first_chunks}
use Rattle.std.proofs.lemmas.List.{take-take, drop-drop, drop-take}
use Rattle.capnp_layout.specs.Prelude.{number_of, words_of, words_from}
use Rattle.capnp_layout.proofs.words.WordsOfBytesLemmas.{length-words_of}
use Rattle.capnp_build.specs.Prelude.{written}
use Rattle.capnp_build.proofs.words.UsedBytesThenZerosLemmas.{written_length, written_zero}
use Rattle.capnp_build.proofs.words.SegmentWriteKeepsEarlierWordsLemmas.{eight_here, eight_before, word_back, drop_written}

-- words of a part
first_words : (d k : ℕ) (bytes : List ℕ) → d ≤ k → take d (map (number_of 256) (first_chunks 8 k bytes)) ≡ map (number_of 256) (first_chunks 8 d bytes)
first_words zero k bytes le = refl
first_words (suc d) zero bytes le = absurd (omega (arith, le))
first_words (suc d) (suc k) bytes le = ap (λ (l : List ℕ). number_of 256 (take 8 bytes) ∷ l) (first_words d k (drop 8 bytes) (omega (arith, le)))

later_words : (s d k : ℕ) (bytes : List ℕ) → s + d ≤ k → take d (drop s (map (number_of 256) (first_chunks 8 k bytes))) ≡ map (number_of 256) (first_chunks 8 d (drop (8 * s) bytes))
later_words zero d k bytes le = first_words d k bytes (omega (arith, le))
later_words (suc s) d zero bytes le = absurd (omega (arith, le))
later_words (suc s) d (suc k) bytes le =
    later_words s d k (drop 8 bytes) (omega (arith, le))
    ∙ ap (λ (l : List ℕ). map (number_of 256) (first_chunks 8 d l)) (drop-drop (8 * s) 8 bytes ∙ ap (λ (n : ℕ). drop n bytes) (omega arith))

whole_words : (d : ℕ) (bytes : List ℕ) → map (number_of 256) (first_chunks 8 d (take (8 * d) bytes)) ≡ map (number_of 256) (first_chunks 8 d bytes)
whole_words zero bytes = refl
whole_words (suc d) bytes =
    let on : 8 * suc d ≡ 8 + 8 * d = omega arith in
    let first : take 8 (take (8 * suc d) bytes) ≡ take 8 bytes = take-take 8 (8 * suc d) bytes (omega arith) in
    let rest : drop 8 (take (8 * suc d) bytes) ≡ take (8 * d) (drop 8 bytes) = ap (λ (n : ℕ). drop 8 (take n bytes)) on ∙ drop-take 8 (8 * d) bytes in
    rw (first, rest) (ap (λ (l : List ℕ). number_of 256 (take 8 bytes) ∷ l) (whole_words d (drop 8 bytes)))

pub part_as_words : (s d : ℕ) (bytes : List ℕ) → 8 * (s + d) ≤ length bytes → words_from (words_of bytes) s d ≡ words_of (take (8 * d) (drop (8 * s) bytes))
part_as_words s d bytes room =
    let rest : List ℕ = drop (8 * s) bytes in
    let long : length (take (8 * d) rest) / 8 ≡ d = omega (arith, room, length-take (8 * d) rest, length-drop (8 * s) bytes) in
    later_words s d (length bytes / 8) bytes (omega (arith, room)) ∙ sym (whole_words d rest)
    ∙ ap (λ (n : ℕ). map (number_of 256) (first_chunks 8 n (take (8 * d) rest))) (sym long)

-- a word among the words of some bytes
set_chunk : (k i : ℕ) (bytes w : List ℕ) → 8 * k ≤ length bytes → i < k → length w ≡ 8
    → map (number_of 256) (first_chunks 8 k (written bytes (8 * i) w)) ≡ slice_set (map (number_of 256) (first_chunks 8 k bytes)) i (number_of 256 w)
set_chunk zero i bytes w room within eight = absurd (omega (arith, within))
set_chunk (suc k) zero bytes w room within eight =
    let here : take 8 (written bytes 0 w) ≡ w = eight_here 0 bytes w (omega arith) eight in
    let past : drop 8 (written bytes 0 w) ≡ drop 8 bytes = written_zero 0 8 bytes w (omega (arith, eight)) (omega (arith, room)) in
    rw (here, past) refl
set_chunk (suc k) (suc i) bytes w room within eight =
    let le : 8 * (suc i) ≤ length bytes = omega (arith, room, within) in
    let same : take 8 (written bytes (8 * suc i) w) ≡ take 8 bytes = eight_before 0 (8 * suc i) bytes w (omega arith) le in
    let on : 8 * suc i ≡ 8 + 8 * i = omega arith in
    let past : drop 8 (written bytes (8 * suc i) w) ≡ written (drop 8 bytes) (8 * i) w =
    ap (λ (n : ℕ). drop 8 (written bytes n w)) on ∙ drop_written 8 (8 * i) bytes w (omega (arith, room)) in
    rw (same, past) (ap (λ (l : List ℕ). number_of 256 (take 8 bytes) ∷ l) (set_chunk k i (drop 8 bytes) w (omega (arith, room, length-drop 8 bytes)) (omega (arith, within)) eight))

pub words_set : (bytes : List ℕ) (i x : ℕ) (w : List ℕ) → i < length (words_of bytes) → x < 2 ^ 64 → w ≡ to_le_bytes w64 x → length w ≡ 8
    → words_of (written bytes (8 * i) w) ≡ slice_set (words_of bytes) i x
words_set bytes i x w within small is eight =
    let k : ℕ = length bytes / 8 in
    let inside : i < k = omega (arith, within, length-words_of bytes) in
    let long : length (written bytes (8 * i) w) ≡ length bytes = written_length (8 * i) bytes w (omega (arith, inside, eight)) in
    ap (λ (n : ℕ). map (number_of 256) (first_chunks 8 (n / 8) (written bytes (8 * i) w))) long
    ∙ set_chunk k i bytes w (omega arith) inside eight
    ∙ ap (λ (v : ℕ). slice_set (words_of bytes) i v) (word_back x w small is eight)
