-- Which element of a list of structs a word is a pointer of, by how many words it comes after the first one's
-- start.
use Rattle.std.proofs.Common.{◌≡◌, ℕ, zero, suc, ◌+◌, ◌-◌, ◌*◌, ◌/◌, ◌%◌, ◌<◌, ◌≤◌, [], refl, sym, ap, ◌∙◌, arith}
use Rattle.std.proofs.lemmas.Nat.{div-add-mod', mod_below, mod-mul-add, div-mul-add}
use Rattle.capnp_layout.specs.Prelude.{pointer_places}
use Rattle.capnp_layout.specs.declared.pointer.StructSize.{StructSize}
use Rattle.capnp_show.specs.Objects.{words_of_struct}
use Rattle.capnp_show.specs.Words.{IsPointerOfElement}

-- a word is among the pointers of an element, which has some words
pub record IsPast (words «data» count index : ℕ) : Type 0 where
  pub some : 0 < words
  pub among : index / words < count
  pub after : «data» ≤ index % words

pub element_is_past : (size : StructSize) (count index words : ℕ) → words ≡ words_of_struct size → IsPast words size.data_words count index
    → IsPointerOfElement size count index
element_is_past size count index words words_are past =
    let whole = div-add-mod' index words in
    let below = mod_below index words past.some in
    let after = past.after in
    let product : index / words * words_of_struct size ≡ index / words * words = ap (λ (x : ℕ). index / words * x) (sym words_are) in
    record { element = index / words; among = past.among; after_data = omega (arith, whole, product); within = omega (arith, whole, product, words_are) }

split_at : (e w index : ℕ) → e * w ≤ index → index < e * w + w → (index / w ≡ e) × (index % w ≡ index - e * w)
split_at e w index low high =
    let is : index ≡ e * w + (index - e * w) = omega arith in
    let small : index - e * w < w = omega arith in
    (ap (λ (x : ℕ). x / w) is ∙ div-mul-add e w (index - e * w) small, ap (λ (x : ℕ). x % w) is ∙ mod-mul-add e w (index - e * w) small)

-- and only there
pub element_is : (size : StructSize) (count index words : ℕ) → words ≡ words_of_struct size → IsPointerOfElement size count index
    → IsPast words size.data_words count index
element_is size count index words words_are p =
    let after_data = p.after_data in
    let within = p.within in
    let among = p.among in
    let product : p.element * words_of_struct size ≡ p.element * words = ap (λ (x : ℕ). p.element * x) (sym words_are) in
    let low : p.element * words ≤ index = omega (arith, product) in
    let high : index < p.element * words + words = omega (arith, product, words_are) in
    let parts = split_at p.element words index low high in
    let quotient = parts.0 in
    let rest = parts.1 in
    record { some = omega arith; among = omega (arith, quotient); after = omega (arith, rest, product) }

-- structs without pointers have none
pub no_pointers : (n segment start d : ℕ) → pointer_places segment start d 0 n ≡ []
no_pointers zero segment start d = refl
no_pointers (suc n) segment start d = no_pointers n segment (start + d + 0) d
