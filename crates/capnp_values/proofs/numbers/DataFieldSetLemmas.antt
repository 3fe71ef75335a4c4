-- Fields of data sections that are set, and fields that stay the same.
use Rattle.std.proofs.Math.Nat.{div-add-mod, pow-suc, mod-le, mul-div-le, mul-le-mul_left}
use native.Mathlib.Nat.{pow-zero}
use Rattle.std.proofs.Math.Pow.{mod-mod-pow}
use Rattle.std.proofs.lemmas.Nat.{pow-add, pow_pos, field_of, shr-shr, shr_below, shr_high, mod_low, mul-add-lt, one_shl, shl_whole, mod_below}
use Rattle.std.proofs.lemmas.List.{length-set}
use Rattle.std.proofs.lemmas.List.Elements.{All-set}
use Rattle.std.proofs.Common.{◌≡◌, ◌⊎◌, ℕ, zero, suc, ◌+◌, ◌-◌, ◌*◌, ◌/◌, ◌%◌, ◌^◌, ◌<◌, ◌≤◌, List, [], ◌∷◌, length, slice_index_or, slice_set, sym, ◌∙◌, ap, subst, inl, inr, lit<, arith}
use Rattle.std.specs.Prelude.{All}
use Rattle.capnp_layout.specs.Prelude.{digits, number_of}
use Rattle.capnp_wire.specs.Prelude.{field}
use Rattle.capnp_layout.proofs.trees.ReadTreeSizesAndWordsBoundedLemmas.{digits_below}
use Rattle.capnp_wire.proofs.words.FieldAndElementAreBitsLemmas.{field_in_word}
use Rattle.capnp_layout.proofs.words.DigitsToNumberAndBackLemmas.{length-digits, digits-number_of, number-digits, number_below, pow-mul}
use Rattle.capnp_values.specs.DataSections.{with_bits, with_field}

-- the bits above a field are the bits from its start on without its own
high_again : (number start width : ℕ) → number / 2 ^ (start + width) ≡ number / 2 ^ start / 2 ^ width
high_again number start width = sym (shr-shr number start width)

-- bits are replaced
pub exchanged : (number start width bits : ℕ) → with_bits number start width bits + 2 ^ start * (number / 2 ^ start % 2 ^ width) ≡ number + 2 ^ start * bits
unfolding with_bits
exchanged number start width bits =
    let high : ℕ = number / 2 ^ start in
    let inner : 2 ^ width * (high / 2 ^ width) + high % 2 ^ width ≡ high = div-add-mod high (2 ^ width) in
    let outer : 2 ^ start * high + number % 2 ^ start ≡ number = div-add-mod number (2 ^ start) in
    let spread : 2 ^ start * (2 ^ width * (high / 2 ^ width) + high % 2 ^ width) ≡ 2 ^ start * high = ap (λ (k : ℕ). 2 ^ start * k) inner in
    rw (high_again number start width) (omega arith)

exchanged_once : (number start width bits other : ℕ) → other + 2 ^ start * (number / 2 ^ start % 2 ^ width) ≡ number + 2 ^ start * bits → other ≡ with_bits number start width bits
exchanged_once number start width bits other e = let same = exchanged number start width bits in omega arith

-- as many bits as before
pub with_bits_below : (number start width bits n : ℕ) → number < 2 ^ n → start + width ≤ n → bits < 2 ^ width → with_bits number start width bits < 2 ^ n
unfolding with_bits
with_bits_below number start width bits n small within few =
    let above : ℕ = n - (start + width) in
    let whole : n ≡ above + (start + width) = omega arith in
    let high : number / 2 ^ (start + width) < 2 ^ above = shr_below number above (start + width) (subst (λ (k : ℕ). number < 2 ^ k) whole small) in
    let upper = mul-add-lt (number / 2 ^ (start + width)) (2 ^ width) bits (2 ^ above) high few in
    let low : number % 2 ^ start < 2 ^ start = let positive = pow_pos start in omega arith in
    let all = mul-add-lt (number / 2 ^ (start + width) * 2 ^ width + bits) (2 ^ start) (number % 2 ^ start) (2 ^ width * 2 ^ above) upper low in
    let power : 2 ^ n ≡ 2 ^ start * (2 ^ width * 2 ^ above) =
    ap (λ (k : ℕ). 2 ^ k) (let turned : n ≡ start + (width + above) = omega arith in turned)
    ∙ pow-add 2 start (width + above) ∙ ap (λ (k : ℕ). 2 ^ start * k) (pow-add 2 width above) in
    rw power (omega arith)

-- a word among others, as a part of their number
number_of-set : (base : ℕ) (words : List ℕ) (q word : ℕ) → q < length words
    → number_of base (slice_set words q word) + base ^ q * slice_index_or words q 0 ≡ number_of base words + base ^ q * word
number_of-set base [] q word within = absurd (omega arith)
number_of-set base (first ∷ words) zero word within = rw pow-zero (omega arith)
number_of-set base (first ∷ words) (suc q) word within =
    let rest = number_of-set base words q word (omega arith) in
    let spread : base * (number_of base (slice_set words q word) + base ^ q * slice_index_or words q 0) ≡ base * (number_of base words + base ^ q * word) =
    ap (λ (k : ℕ). base * k) rest in
    rw pow-suc (omega arith)

-- a field within a word of the section is set in that word
pub set_in_word : (words : List ℕ) (width offset q r bits : ℕ) → All (λ word. word < 2 ^ 64) words → q < length words
    → width * offset ≡ 64 * q + r → width + r ≤ 64 → bits < 2 ^ width
    → slice_set words q (with_bits (slice_index_or words q 0) r width bits) ≡ with_field words width offset bits
unfolding with_field
set_in_word words width offset q r bits small inside at within few =
    let word : ℕ = slice_index_or words q 0 in
    let put : ℕ = with_bits word r width bits in
    let number : ℕ = number_of (2 ^ 64) words in
    let made : List ℕ = slice_set words q put in
    let old : ℕ = word / 2 ^ r % 2 ^ width in
    let unit : 2 ^ (width * offset) ≡ (2 ^ 64) ^ q * 2 ^ r = ap (λ (k : ℕ). 2 ^ k) at ∙ pow-add 2 (64 * q) r ∙ ap (λ (k : ℕ). k * 2 ^ r) (pow-mul 2 64 q) in
    let outer : number_of (2 ^ 64) made + (2 ^ 64) ^ q * word ≡ number + (2 ^ 64) ^ q * put = number_of-set (2 ^ 64) words q put inside in
    let inner : put + 2 ^ r * old ≡ word + 2 ^ r * bits = exchanged word r width bits in
    let spread : (2 ^ 64) ^ q * (put + 2 ^ r * old) ≡ (2 ^ 64) ^ q * (word + 2 ^ r * bits) = ap (λ (k : ℕ). (2 ^ 64) ^ q * k) inner in
    let read : field words width offset ≡ old = field_in_word words width offset q r small at within in
    let parts : number_of (2 ^ 64) made + 2 ^ (width * offset) * old ≡ number + 2 ^ (width * offset) * bits = rw unit (omega arith) in
    let both : number_of (2 ^ 64) made + 2 ^ (width * offset) * field words width offset ≡ number + 2 ^ (width * offset) * bits =
    ap (λ (k : ℕ). number_of (2 ^ 64) made + 2 ^ (width * offset) * k) read ∙ parts in
    let whole : number_of (2 ^ 64) made ≡ with_bits number (width * offset) width bits = exchanged_once number (width * offset) width bits (number_of (2 ^ 64) made) both in
    let word_small : word < 2 ^ 64 = small q 0 inside in
    let all : All (λ word. word < 2 ^ 64) made = All-set (λ (w : ℕ). w < 2 ^ 64) words q put (with_bits_below word r width bits 64 word_small (omega arith) few) small in
    sym (digits-number_of (2 ^ 64) made all) ∙ ap (λ (k : ℕ). digits (2 ^ 64) k (number_of (2 ^ 64) made)) (length-set words q put) ∙ ap (digits (2 ^ 64) (length words)) whole

-- a word in which bits are replaced
pub put_in_word : (word start width bits : ℕ) → word < 2 ^ 64 → width + start ≤ 64 → width < 64 → bits < 2 ^ width
    → word - word / 2 ^ start % (1 * 2 ^ width % 2 ^ 64) * 2 ^ start % 2 ^ 64 + bits * 2 ^ start % 2 ^ 64 ≡ with_bits word start width bits
put_in_word word start width bits small within less few =
    let old : ℕ = word / 2 ^ start % 2 ^ width in
    let mask : 1 * 2 ^ width % 2 ^ 64 ≡ 2 ^ width = one_shl width 64 less in
    let old_few : old < 2 ^ width = mod_below (word / 2 ^ start) (2 ^ width) (pow_pos width) in
    let goes : old * 2 ^ start % 2 ^ 64 ≡ old * 2 ^ start = shl_whole old width start 64 old_few within in
    let comes : bits * 2 ^ start % 2 ^ 64 ≡ bits * 2 ^ start = shl_whole bits width start 64 few within in
    let at_most : 2 ^ start * old ≤ 2 ^ start * (word / 2 ^ start) = mul-le-mul_left (2 ^ start) (mod-le (word / 2 ^ start) (2 ^ width)) in
    let room : 2 ^ start * (word / 2 ^ start) ≤ word = mul-div-le word (2 ^ start) in
    let swap = exchanged word start width bits in
    rw (mask, goes, comes) (omega arith)

-- a word that is all of a field
pub set_whole_word : (word start width bits : ℕ) → word < 2 ^ 64 → width ≡ 64 → width + start ≤ 64 → bits ≡ with_bits word start width bits
set_whole_word word start width bits small whole within =
    let none : start ≡ 0 = omega arith in
    rw (whole, none) (exchanged_once word 0 64 bits bits (omega arith))

-- nothing is set in no bits
pub set_nothing : (words : List ℕ) (offset bits : ℕ) → All (λ word. word < 2 ^ 64) words → bits < 2 ^ 0 → words ≡ with_field words 0 offset bits
unfolding with_field
set_nothing words offset bits small few =
    let number : ℕ = number_of (2 ^ 64) words in
    let none : bits ≡ 0 = omega arith in
    let start : 0 * offset ≡ 0 = omega arith in
    let same : number ≡ with_bits number 0 0 0 = exchanged_once number 0 0 0 number (omega arith) in
    rw (none, start) (sym (digits-number_of (2 ^ 64) words small) ∙ ap (digits (2 ^ 64) (length words)) same)

-- the words are as many, and are words
pub length-with_field : (words : List ℕ) (width offset bits : ℕ) → length (with_field words width offset bits) ≡ length words
unfolding with_field
length-with_field words width offset bits = length-digits (2 ^ 64) (length words) (with_bits (number_of (2 ^ 64) words) (width * offset) width bits)

pub with_field_below : (words : List ℕ) (width offset bits : ℕ) → All (λ word. word < 2 ^ 64) (with_field words width offset bits)
unfolding with_field
with_field_below words width offset bits = digits_below (2 ^ 64) (length words) (with_bits (number_of (2 ^ 64) words) (width * offset) width bits) (lit< tt)

-- the number of a section in which a field is set
number_of-with_field : (words : List ℕ) (width offset bits : ℕ) → All (λ word. word < 2 ^ 64) words → width * (offset + 1) ≤ 64 * length words → bits < 2 ^ width
    → number_of (2 ^ 64) (with_field words width offset bits) ≡ with_bits (number_of (2 ^ 64) words) (width * offset) width bits
unfolding with_field
number_of-with_field words width offset bits small within few =
    let long : 2 ^ (64 * length words) ≡ (2 ^ 64) ^ length words = pow-mul 2 64 (length words) in
    let number : number_of (2 ^ 64) words < 2 ^ (64 * length words) = rw long (number_below (2 ^ 64) words small) in
    let below = with_bits_below (number_of (2 ^ 64) words) (width * offset) width bits (64 * length words) number (omega arith) few in
    number-digits (2 ^ 64) (length words) (with_bits (number_of (2 ^ 64) words) (width * offset) width bits) (lit< tt)
    (rw long at below)

-- the bits of a number that has others
turned : (number start width bits : ℕ) → with_bits number start width bits ≡ (number / 2 ^ (start + width) * 2 ^ width + bits) * 2 ^ start + number % 2 ^ start
unfolding with_bits
turned number start width bits = omega arith

above_start : (number start width bits : ℕ) → with_bits number start width bits / 2 ^ start ≡ number / 2 ^ (start + width) * 2 ^ width + bits
above_start number start width bits =
    let low : number % 2 ^ start < 2 ^ start = let positive = pow_pos start in omega arith in
    rw (turned number start width bits) (shr_high (number / 2 ^ (start + width) * 2 ^ width + bits) start (number % 2 ^ start) low)

bits_set : (number start width bits : ℕ) → bits < 2 ^ width → with_bits number start width bits / 2 ^ start % 2 ^ width ≡ bits
bits_set number start width bits few =
    rw (above_start number start width bits) (mod_low (number / 2 ^ (start + width)) width bits few)

bits_above : (number start width bits other : ℕ) → bits < 2 ^ width → start + width ≤ other → with_bits number start width bits / 2 ^ other ≡ number / 2 ^ other
bits_above number start width bits other few past =
    let more : ℕ = other - (start + width) in
    let split : other ≡ (start + width) + more = omega arith in
    let high : with_bits number start width bits / 2 ^ (start + width) ≡ number / 2 ^ (start + width) =
    sym (shr-shr (with_bits number start width bits) start width) ∙ ap (λ (k : ℕ). k / 2 ^ width) (above_start number start width bits)
    ∙ shr_high (number / 2 ^ (start + width)) width bits few in
    ap (λ (k : ℕ). with_bits number start width bits / 2 ^ k) split
    ∙ sym (shr-shr (with_bits number start width bits) (start + width) more)
    ∙ ap (λ (k : ℕ). k / 2 ^ more) high
    ∙ shr-shr number (start + width) more
    ∙ ap (λ (k : ℕ). number / 2 ^ k) (sym split)

low_stays : (number start width bits : ℕ) → with_bits number start width bits % 2 ^ start ≡ number % 2 ^ start
low_stays number start width bits =
    let low : number % 2 ^ start < 2 ^ start = let positive = pow_pos start in omega arith in
    rw (turned number start width bits) (mod_low (number / 2 ^ (start + width) * 2 ^ width + bits) start (number % 2 ^ start) low)

-- bits within the lowest ones of a number are bits of these
cut : (number start at wide : ℕ) → at + wide ≤ start → number / 2 ^ at % 2 ^ wide ≡ number % 2 ^ start % 2 ^ (wide + at) / 2 ^ at
cut number start at wide before =
    let split : start ≡ (start - (wide + at)) + (wide + at) = omega arith in
    sym (field_of number wide at)
    ∙ ap (λ (k : ℕ). k / 2 ^ at) (sym (ap (λ (k : ℕ). number % 2 ^ k % 2 ^ (wide + at)) split ∙ mod-mod-pow number (start - (wide + at)) (wide + at)))

bits_below : (number start width bits at wide : ℕ) → at + wide ≤ start → with_bits number start width bits / 2 ^ at % 2 ^ wide ≡ number / 2 ^ at % 2 ^ wide
bits_below number start width bits at wide before =
    cut (with_bits number start width bits) start at wide before
    ∙ ap (λ (k : ℕ). k % 2 ^ (wide + at) / 2 ^ at) (low_stays number start width bits)
    ∙ sym (cut number start at wide before)

-- a field is what it is set to
pub field_set : (words : List ℕ) (width offset bits : ℕ) → All (λ word. word < 2 ^ 64) words → width * (offset + 1) ≤ 64 * length words → bits < 2 ^ width
    → field (with_field words width offset bits) width offset ≡ bits
field_set words width offset bits small within few =
    ap (λ (k : ℕ). k / 2 ^ (width * offset) % 2 ^ width) (number_of-with_field words width offset bits small within few)
    ∙ bits_set (number_of (2 ^ 64) words) (width * offset) width bits few

-- and other fields stay the same
pub field_stays : (words : List ℕ) (width offset bits other at : ℕ) → All (λ word. word < 2 ^ 64) words → width * (offset + 1) ≤ 64 * length words → bits < 2 ^ width
    → (width * (offset + 1) ≤ other * at) ⊎ (other * (at + 1) ≤ width * offset) → field (with_field words width offset bits) other at ≡ field words other at
field_stays words width offset bits other at small within few apart =
    let number : ℕ = number_of (2 ^ 64) words in
    ap (λ (k : ℕ). k / 2 ^ (other * at) % 2 ^ other) (number_of-with_field words width offset bits small within few)
    ∙ elim apart [
      | inl after ↦ ap (λ (k : ℕ). k % 2 ^ other) (bits_above number (width * offset) width bits (other * at) few (omega arith))
      | inr before ↦ bits_below number (width * offset) width bits (other * at) other (omega arith)
    ]
