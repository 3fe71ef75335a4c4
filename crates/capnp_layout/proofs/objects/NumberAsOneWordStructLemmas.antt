-- A number of a list, as a struct of one data word: which word that is, and that it lies within the list.
use Rattle.std.proofs.lemmas.List.{take_all}
use Rattle.std.proofs.lemmas.List.Elements.{All-nil, All-cons}
use Rattle.std.proofs.lemmas.Nat.{from_le_bytes-to_le_bytes_8}
use Rattle.std.proofs.Common.{◌≡◌, ℕ, zero, suc, ◌+◌, ◌*◌, ◌/◌, ◌%◌, ◌^◌, ◌<◌, ◌≤◌, List, [], ◌∷◌, length, map, take, slice_index_or, w64, refl, sym, ◌∙◌, ap, arith}
use Rattle.std.specs.Prelude.{All}
use Rattle.std.specs.Int.{to_le_bytes, from_le_bytes}
use Rattle.std.specs.Simd.{first_chunks}
use Rattle.capnp_layout.specs.Prelude.{number_of, words_of, words_from, code_of, width, words_for, places}
use Rattle.capnp_layout.specs.declared.element_size.ElementSize.{ElementSize}
use Rattle.capnp_layout.specs.declared.element_size.ElementSize.TheVariants.{Void, Bit, Byte, TwoBytes, FourBytes, EightBytes}
use Rattle.capnp_layout.proofs.words.WordsOfBytesLemmas.{number_of_eight}

pub map_at : (f : ℕ → ℕ) → f 0 ≡ 0 → (words : List ℕ) (i : ℕ) → slice_index_or (map f words) i 0 ≡ f (slice_index_or words i 0)
map_at f none [] i = sym none
map_at f none (word ∷ words) zero = refl
map_at f none (word ∷ words) (suc i) = map_at f none words i

-- and fit a word
pub part_below : (size : ElementSize) (word : ℕ) → word % 2 ^ width (code_of size) < 2 ^ 64
part_below Void word = omega arith
part_below Bit word = omega arith
part_below Byte word = omega arith
part_below TwoBytes word = omega arith
part_below FourBytes word = omega arith
part_below EightBytes word = omega arith

pub map_below : (f : ℕ → ℕ) → ((word : ℕ) → f word < 2 ^ 64) → (words : List ℕ) → All (λ w. w < 2 ^ 64) (map f words)
map_below f below [] = All-nil (λ w. w < 2 ^ 64)
map_below f below (word ∷ words) = All-cons (λ w. w < 2 ^ 64) (f word) (map f words) (below word) (map_below f below words)

-- the word of a number alone
pub one_word : (bytes : List ℕ) (word : ℕ) → word < 2 ^ 64 → bytes ≡ to_le_bytes w64 word → words_of bytes ≡ word ∷ []
one_word bytes word small is =
    let eight : length bytes ≡ 8 = ap (λ (b : List ℕ). length b) is in
    let one : length bytes / 8 ≡ 1 = omega arith in
    let all : take 8 bytes ≡ bytes = take_all 8 bytes (omega arith) in
    ap (λ (k : ℕ). map (number_of 256) (first_chunks 8 k bytes)) one
    ∙ ap (λ (b : List ℕ). number_of 256 b ∷ []) all
    ∙ ap (λ (k : ℕ). k ∷ []) (number_of_eight bytes eight ∙ ap (λ (b : List ℕ). from_le_bytes w64 b) is ∙ from_le_bytes-to_le_bytes_8 word small)

pub one_from : (words : List ℕ) (q : ℕ) → q < length words → words_from words q 1 ≡ slice_index_or words q 0 ∷ []
one_from [] q within = absurd (omega arith)
one_from (word ∷ words) zero within = refl
one_from (word ∷ words) (suc q) within = one_from words q (omega arith)

pub single : (words : List ℕ) → length words ≡ 1 → words ≡ slice_index_or words 0 0 ∷ []
single [] one = absurd (omega arith)
single (word ∷ []) one = refl
single (word ∷ other ∷ words) one = absurd (omega arith)

pub no_places : (a b c d p : ℕ) → p ≡ 0 → places a b p ≡ places c d p
no_places a b c d p none = ap (places a b) none ∙ sym (ap (places c d) none)

-- an element that has bits is in a word of its list
pub element_fits : (size : ElementSize) (n i : ℕ) → 0 < code_of size → i < n → width (code_of size) * i / 64 + 1 ≤ words_for n (width (code_of size))
element_fits Void n i some within = absurd (omega arith)
element_fits Bit n i some within = omega arith
element_fits Byte n i some within = omega arith
element_fits TwoBytes n i some within = omega arith
element_fits FourBytes n i some within = omega arith
element_fits EightBytes n i some within = omega arith
