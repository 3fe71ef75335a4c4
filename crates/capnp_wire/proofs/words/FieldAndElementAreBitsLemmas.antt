-- A field that is within one word is bits of that word, and an element of a list of numbers is such bits of the
-- words as one number.
use Rattle.std.proofs.Math.Nat.{div-div-eq-div-mul}
use Rattle.std.proofs.lemmas.Nat.{pow-add}
use Rattle.std.proofs.Common.{◌≡◌, ℕ, ◌+◌, ◌*◌, ◌/◌, ◌%◌, ◌^◌, ◌<◌, ◌≤◌, List, slice_index_or, sym, ◌∙◌, ap}
use Rattle.std.specs.Prelude.{All}
use Rattle.capnp_layout.specs.Prelude.{digits, number_of}
use Rattle.capnp_wire.specs.Prelude.{field}
use Rattle.capnp_layout.proofs.words.DigitsToNumberAndBackLemmas.{pow-mul}
use Rattle.capnp_layout.proofs.words.DigitByIndexLemmas.{digit_at, low_bits, word_in_number}

-- a field within a word of the section
pub field_in_word : (words : List ℕ) (w i q r : ℕ) → All (λ word. word < 2 ^ 64) words → w * i ≡ 64 * q + r → w + r ≤ 64
    → field words w i ≡ slice_index_or words q 0 / 2 ^ r % 2 ^ w
field_in_word words w i q r small at within =
    let all = number_of (2 ^ 64) words in
    let unit : 2 ^ (w * i) ≡ (2 ^ 64) ^ q * 2 ^ r = ap (λ (k : ℕ). 2 ^ k) at ∙ pow-add 2 (64 * q) r ∙ ap (λ (k : ℕ). k * 2 ^ r) (pow-mul 2 64 q) in
    ap (λ (k : ℕ). all / k % 2 ^ w) unit
    ∙ ap (λ (k : ℕ). k % 2 ^ w) (sym (div-div-eq-div-mul all ((2 ^ 64) ^ q) (2 ^ r)))
    ∙ sym (low_bits (all / (2 ^ 64) ^ q) r w within)
    ∙ ap (λ (k : ℕ). k / 2 ^ r % 2 ^ w) (word_in_number words q small)

pub element_is_field : (words : List ℕ) (w n i : ℕ) → i < n → slice_index_or (digits (2 ^ w) n (number_of (2 ^ 64) words)) i 0 ≡ field words w i
element_is_field words w n i within =
    digit_at (2 ^ w) n (number_of (2 ^ 64) words) i within ∙ ap (λ (k : ℕ). number_of (2 ^ 64) words / k % 2 ^ w) (sym (pow-mul 2 w i))
