-- Each element of a list of numbers is in one word. The words of the list alone have all its elements. Elements of
-- 64 bits are these words.
use Rattle.std.proofs.lemmas.List.{take-take, take_all}
use Rattle.std.proofs.Common.{◌≡◌, ℕ, ◌+◌, ◌*◌, ◌/◌, ◌%◌, ◌^◌, ◌<◌, ◌≤◌, List, length, take, drop, sym, ◌∙◌, ap, arith}
use Rattle.capnp_layout.specs.Prelude.{digits, number_of, words_of, code_of, width, words_for, elements}
use Rattle.capnp_layout.proofs.words.WordsOfBytesLemmas.{length-words_of}
use Rattle.capnp_layout.proofs.words.PutBytesAsWordsLemmas.{words_part}
use Rattle.capnp_layout.proofs.words.DigitsToNumberAndBackLemmas.{digits-number_of}
use Rattle.std.specs.Prelude.{All}
use Rattle.capnp_layout.specs.declared.element_size.ElementSize.{ElementSize}
use Rattle.capnp_layout.specs.declared.element_size.ElementSize.TheVariants.{Void, Bit, Byte, TwoBytes, FourBytes, EightBytes}

pub within_word : (size : ElementSize) (i : ℕ) → width (code_of size) + width (code_of size) * i % 64 ≤ 64
within_word Void i = omega arith
within_word Bit i = omega arith
within_word Byte i = omega arith
within_word TwoBytes i = omega arith
within_word FourBytes i = omega arith
within_word EightBytes i = omega arith

-- the elements of a list within a segment
pub elements_within : (bytes : List ℕ) (start code n : ℕ) → start + words_for n (width code) ≤ length bytes / 8
    → elements (words_of (take (8 * words_for n (width code)) (drop (8 * start) bytes))) 0 code n ≡ elements (words_of bytes) start code n
elements_within bytes start code n room =
    let k = words_for n (width code) in
    let list : List ℕ → List ℕ = λ words. digits (2 ^ width code) n (number_of (2 ^ 64) words) in
    ap (λ (words : List ℕ). list (take k words)) (words_part start k bytes room)
    ∙ ap list (take-take k k (drop start (words_of bytes)) (omega arith))

-- a list of words is its words
pub elements_of_words : (bytes : List ℕ) (n : ℕ) → All (λ w. w < 2 ^ 64) (words_of bytes) → length bytes ≡ 8 * words_for n 64 → elements (words_of bytes) 0 5 n ≡ words_of bytes
elements_of_words bytes n small long =
    let one_each : words_for n 64 ≡ n = omega arith in
    let many : length (words_of bytes) ≡ n = omega (arith, length-words_of bytes) in
    ap (λ (k : ℕ). digits (2 ^ 64) n (number_of (2 ^ 64) (take k (words_of bytes)))) one_each
    ∙ ap (λ (words : List ℕ). digits (2 ^ 64) n (number_of (2 ^ 64) words)) (take_all n (words_of bytes) (omega arith))
    ∙ ap (λ (k : ℕ). digits (2 ^ 64) k (number_of (2 ^ 64) (words_of bytes))) (sym many)
    ∙ digits-number_of (2 ^ 64) (words_of bytes) small
