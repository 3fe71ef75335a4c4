-- Where data words are cut, or filled up with zeros (src/copied.rt), a field within them is the same.
use Rattle.std.proofs.Common.{◌≡◌, ℕ, zero, suc, ◌+◌, ◌-◌, ◌*◌, ◌/◌, ◌%◌, ◌^◌, ◌≤◌, List, [], ◌∷◌, ◌++◌, length, take, drop, refl, sym, ◌∙◌, ap, arith, length-take, length-append}
use Rattle.std.specs.Prelude.{replicate}
use Rattle.std.proofs.Math.Nat.{add-mul-div_left, add-mul-mod_self_left, mul_assoc, mul-suc}
use Rattle.std.proofs.lemmas.Nat.{pow-add, pow_pos}
use Rattle.std.proofs.lemmas.List.{take-append-drop, length-replicate}
use Rattle.capnp_layout.specs.Prelude.{number_of}
use Rattle.capnp_wire.specs.Prelude.{field, Struct}
use Rattle.capnp_layout.proofs.words.DigitsToNumberAndBackLemmas.{pow-mul}
use Rattle.capnp_layout.proofs.words.WordsOfBytesLemmas.{number-append}
use Rattle.capnp_orphans.specs.Copied.{data_up_to}

zeros_number : (count : ℕ) → number_of (2 ^ 64) (replicate count 0) ≡ 0
zeros_number zero = refl
zeros_number (suc count) = let rest = zeros_number count in omega (arith, rest)

filled_number : (words : List ℕ) (count : ℕ) → number_of (2 ^ 64) (words ++ replicate count 0) ≡ number_of (2 ^ 64) words
filled_number [] count = zeros_number count
filled_number (w ∷ words) count = ap (λ (n : ℕ). w + 2 ^ 64 * n) (filled_number words count)

-- the words: the ones that are left, and the rest
cut_number : (words : List ℕ) (count : ℕ) → number_of (2 ^ 64) words
    ≡ number_of (2 ^ 64) (take count (words ++ replicate count 0)) + 2 ^ (64 * count) * number_of (2 ^ 64) (drop count (words ++ replicate count 0))
cut_number words count =
    let front : List ℕ = take count (words ++ replicate count 0) in
    let rest : List ℕ = drop count (words ++ replicate count 0) in
    let long : length (take count (words ++ replicate count 0)) ≡ count =
    omega (arith, length-take count (words ++ replicate count 0), length-append words (replicate count 0), length-replicate {A = ℕ} count 0) in
    let power : (2 ^ 64) ^ length (take count (words ++ replicate count 0)) ≡ 2 ^ (64 * count) = ap (λ (n : ℕ). (2 ^ 64) ^ n) long ∙ sym (pow-mul 2 64 count) in
    sym (filled_number words count) ∙ sym (ap (λ (l : List ℕ). number_of (2 ^ 64) l) (take-append-drop count (words ++ replicate count 0)))
    ∙ number-append (2 ^ 64) (take count (words ++ replicate count 0)) (drop count (words ++ replicate count 0))
    ∙ ap (λ (p : ℕ). number_of (2 ^ 64) (take count (words ++ replicate count 0)) + p * number_of (2 ^ 64) (drop count (words ++ replicate count 0))) power

-- the bits below a bit do not depend on the bits above it
low_bits : (number low high start width all : ℕ) → number ≡ low + 2 ^ all * high → start + width ≤ all → low / 2 ^ start % 2 ^ width ≡ number / 2 ^ start % 2 ^ width
low_bits number low high start width all is within =
    let above : ℕ = all - (start + width) in
    let whole : all ≡ start + (width + (all - (start + width))) = omega (arith, within) in
    let power : 2 ^ all ≡ 2 ^ start * (2 ^ width * 2 ^ (all - (start + width))) =
    ap (λ (k : ℕ). 2 ^ k) whole ∙ pow-add 2 start (width + (all - (start + width))) ∙ ap (λ (k : ℕ). 2 ^ start * k) (pow-add 2 width (all - (start + width))) in
    let split : number ≡ low + 2 ^ start * (2 ^ width * (2 ^ (all - (start + width)) * high)) =
    is ∙ ap (λ (k : ℕ). low + k * high) power ∙ ap (λ (k : ℕ). low + k) (mul_assoc (2 ^ start) (2 ^ width * 2 ^ (all - (start + width))) high
    ∙ ap (λ (k : ℕ). 2 ^ start * k) (mul_assoc (2 ^ width) (2 ^ (all - (start + width))) high)) in
    sym (ap (λ (k : ℕ). k / 2 ^ start % 2 ^ width) split ∙ ap (λ (k : ℕ). k % 2 ^ width) (add-mul-div_left low (2 ^ width * (2 ^ (all - (start + width)) * high)) {y = 2 ^ start} (pow_pos start))
    ∙ add-mul-mod_self_left (low / 2 ^ start) (2 ^ width) (2 ^ (all - (start + width)) * high))

pub field_in : (fields : Struct) (count width offset : ℕ) → width * (offset + 1) ≤ 64 * count → field (data_up_to fields count) width offset ≡ field fields.words width offset
field_in fields count width offset within =
    let next : offset + 1 ≡ suc offset = omega arith in
    let spread : width * (offset + 1) ≡ width * offset + width = ap (λ (n : ℕ). width * n) next ∙ mul-suc width offset in
    low_bits (number_of (2 ^ 64) fields.words) (number_of (2 ^ 64) (data_up_to fields count)) (number_of (2 ^ 64) (drop count (fields.words ++ replicate count 0))) (width * offset) width (64 * count)
    (cut_number fields.words count) (omega (arith, spread, within))
