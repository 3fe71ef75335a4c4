-- Where the elements of a list of structs have their data words and their pointers: one after the other, within
-- the list.
use Rattle.std.proofs.Common.{◌≡◌, ℕ, zero, suc, ◌+◌, ◌*◌, ◌<◌, ◌≤◌, List, [], ◌++◌, length, take, drop, slice_index_or, sym, ◌∙◌, ap, arith}
use Rattle.std.proofs.Math.Seq.{take-append_seam, drop-append-add}
use Rattle.capnp_layout.specs.Prelude.{words_from, places, elements_from, pointer_places}
use Rattle.capnp_layout.specs.declared.place.Place.{Place}
use Rattle.capnp_layout.proofs.objects.SectionWordByIndexLemmas.{length-places}
use Rattle.capnp_layout.proofs.trees.ReadTreeSizesAndWordsBoundedLemmas.{length-elements_from}

-- the words up to an element
next_struct : (start i d p : ℕ) → start + d + p + i * (d + p) ≡ start + suc i * (d + p)
next_struct start i d p = omega arith

-- its data words
pub struct_within : (words : List ℕ) (start d p n i : ℕ) → i < n → slice_index_or (elements_from words start d p n) i [] ≡ words_from words (start + i * (d + p)) d
struct_within words start d p zero i within = absurd (omega arith)
struct_within words start d p (suc n) zero within = ap (λ (w : ℕ). words_from words w d) (omega arith)
struct_within words start d p (suc n) (suc i) within =
    struct_within words (start + d + p) d p n i (omega arith) ∙ ap (λ (w : ℕ). words_from words w d) (next_struct start i d p)

-- and its pointers
pub element_places_within : (segment start d p n i : ℕ) → i < n → take p (drop (i * p) (pointer_places segment start d p n)) ≡ places segment (start + i * (d + p) + d) p
element_places_within segment start d p zero i within = absurd (omega arith)
element_places_within segment start d p (suc n) zero within =
    let first = places segment (start + d) p in
    let others = pointer_places segment (start + d + p) d p n in
    let long : p ≡ length first = length-places segment (start + d) p in
    let none : zero * p ≡ 0 = omega arith in
    ap (λ (k : ℕ). take p (drop k (first ++ others))) none
    ∙ ap (λ (k : ℕ). take k (first ++ others)) long
    ∙ take-append_seam first others
    ∙ ap (λ (w : ℕ). places segment w p) (omega arith)
element_places_within segment start d p (suc n) (suc i) within =
    let first = places segment (start + d) p in
    let others = pointer_places segment (start + d + p) d p n in
    let past : suc i * p ≡ length first + i * p = omega (arith, length-places segment (start + d) p) in
    ap (λ (k : ℕ). take p (drop k (first ++ others))) past
    ∙ ap (λ (l : List Place). take p l) (drop-append-add first others (i * p))
    ∙ element_places_within segment (start + d + p) d p n i (omega arith)
    ∙ ap (λ (w : ℕ). places segment (w + d) p) (next_struct start i d p)

-- and all of it lies before the end of the list
pub struct_ends : (i n size : ℕ) → i < n → i * size + size ≤ n * size
struct_ends i zero size within = absurd (omega arith)
struct_ends zero (suc n) size within = omega arith
struct_ends (suc i) (suc n) size within = omega (arith, struct_ends i n size (omega arith))

-- an element of a list, whose size in words is known
module _ (words : List ℕ) (start d p n i size : ℕ) (within : i < length (elements_from words start d p n)) (size_is : size ≡ d + p) where
  before : i * size ≡ i * (d + p)
  before = ap (λ (k : ℕ). i * k) size_is

  is_one : i < n
  is_one = omega (arith, within, length-elements_from words start d p n)

  pub element_within : i * size + (d + p) ≤ n * (d + p)
  element_within = omega (arith, before, struct_ends i n (d + p) is_one)

  pub element_words : words_from words (start + i * size) d ≡ slice_index_or (elements_from words start d p n) i []
  element_words = ap (λ (k : ℕ). words_from words (start + k) d) before ∙ sym (struct_within words start d p n i is_one)

  pub element_pointers : (segment : ℕ) → places segment (start + i * size + d) p ≡ take p (drop (i * p) (pointer_places segment start d p n))
  element_pointers segment = ap (λ (k : ℕ). places segment (start + k + d) p) before ∙ sym (element_places_within segment start d p n i is_one)
