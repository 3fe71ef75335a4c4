-- Whether sections of structs and of elements are as short as they can be is seen from the last word of each in
-- the segment.
use Rattle.std.proofs.Math.Nat.{mul-le-mul_left}
use Rattle.std.proofs.lemmas.List.{get_or-take, get_or-drop, get_or_append_left, get_or-append-add}
use Rattle.std.proofs.lemmas.Option.{slice_get_within}
use Rattle.std.proofs.Common.{◌≡◌, ◌≢◌, inl, inr, ℕ, zero, suc, ◌+◌, ◌-◌, ◌*◌, ◌<◌, ◌≤◌, List, [], ◌∷◌, ◌++◌, length, take, Some, None, slice_get, slice_index_or, refl, sym, ◌∙◌, ap}
use Rattle.std.proofs.Common.{subst, arith}
use Rattle.std.specs.Prelude.{◌↔◌}
use Rattle.capnp_layout.specs.Prelude.{words_from, places, pointer_places, elements_from}
use Rattle.capnp_wire.specs.Prelude.{EndsFull, NeedData, NeedPointers, links_at}
use Rattle.capnp_layout.specs.declared.place.Place.{Place}
use Rattle.capnp_layout.proofs.trees.ReadTreeSizesAndWordsBoundedLemmas.{length-elements_from}
use Rattle.capnp_layout.proofs.words.SubsliceLengthAndFirstWordLemmas.{drop_first, length-subslice}

pub or_zero : (words : List ℕ) (i : ℕ) → slice_get words i ≡ None → slice_index_or words i 0 ≡ 0
or_zero [] i e = refl
or_zero (x ∷ words) zero e = absurd (cc)
or_zero (x ∷ words) (suc i) e = or_zero words i e

pub or_there : (words : List ℕ) (i word : ℕ) → slice_get words i ≡ Some word → slice_index_or words i 0 ≡ word
or_there [] i word e = absurd (cc)
or_there (x ∷ words) zero word e = cc
or_there (x ∷ words) (suc i) word e = or_there words i word e

pub there_or : (words : List ℕ) (i : ℕ) → i < length words → slice_get words i ≡ Some (slice_index_or words i 0)
there_or [] i within = absurd (omega arith)
there_or (x ∷ words) zero within = refl
there_or (x ∷ words) (suc i) within = there_or words i (omega arith)

-- the last of some words
pub ends_full_last : (words : List ℕ) (k : ℕ) → length words ≡ k + 1 → EndsFull words ↔ (slice_index_or words k 0 ≢ 0)
ends_full_last words k long = (
  λ full is. full k long (there_or words k (omega arith) ∙ ap Some is),
  λ set j many last.
      let same : j ≡ k = omega arith in
      set (ap (λ (i : ℕ). slice_index_or words i 0) (sym same) ∙ or_there words j 0 last),
)

pub in_subslice : (words : List ℕ) (s n i : ℕ) → i < n → slice_index_or (words_from words s n) i 0 ≡ slice_index_or words (s + i) 0
in_subslice words s n i within = rw (get_or-take, get_or-drop) refl

pub stretch_ends_full : (words : List ℕ) (s n last : ℕ) → s + n ≤ length words → 0 < n → last + 1 ≡ s + n
    → EndsFull (words_from words s n) ↔ (slice_index_or words last 0 ≢ 0)
stretch_ends_full words s n last room some at =
    let long : length (words_from words s n) ≡ (n - 1) + 1 = omega (arith, length-subslice words s n room) in
    let here : s + (n - 1) ≡ last = omega arith in
    let same : slice_index_or (words_from words s n) (n - 1) 0 ≡ slice_index_or words last 0 =
    in_subslice words s n (n - 1) (omega arith) ∙ ap (λ (i : ℕ). slice_index_or words i 0) here in
    let e = ends_full_last (words_from words s n) (n - 1) long in
    (λ full is. e.0 full (same ∙ is), λ set. e.1 (λ is. set (sym same ∙ is)))

-- one of some elements
pub element_room : (s w n i most : ℕ) → i < n → s + n * w ≤ most → s + i * w + w ≤ most
element_room s w n i most less room =
    let h : w * suc i ≤ w * n = mul-le-mul_left w less in
    omega arith

elements_at : (words : List ℕ) (s d p n i : ℕ) → i < n → slice_get (elements_from words s d p n) i ≡ Some (words_from words (s + i * (d + p)) d)
elements_at words s d p zero i less = absurd (omega arith)
elements_at words s d p (suc n) zero less = let here : s ≡ s + 0 * (d + p) = omega arith in ap (λ (k : ℕ). Some (words_from words k d)) here
elements_at words s d p (suc n) (suc i) less =
    let next : s + d + p + i * (d + p) ≡ s + suc i * (d + p) = omega arith in
    elements_at words (s + d + p) d p n i (omega arith) ∙ ap (λ (k : ℕ). Some (words_from words k d)) next

pub need_data : (words : List ℕ) (s d p n first : ℕ) → s + n * (d + p) ≤ length words → 0 < d → first + 1 ≡ s + d
    → NeedData d (elements_from words s d p n) ↔ ((i : ℕ) × (i < n) × (slice_index_or words (first + i * (d + p)) 0 ≢ 0))
need_data words s d p n first room some at = (
  λ need. elim need [
    | inl none ↦ absurd (omega arith)
    | inr found ↦
        let within : found.0 < n = omega (arith, slice_get_within (elements_from words s d p n) found.0 found.1 found.2, length-elements_from words s d p n) in
        let there = elements_at words s d p n found.0 within in
        let same : found.1 ≡ words_from words (s + found.0 * (d + p)) d = cc in
        let fits = element_room s (d + p) n found.0 (length words) within room in
        let e = stretch_ends_full words (s + found.0 * (d + p)) d (first + found.0 * (d + p)) (omega arith) some (omega arith) in
        (found.0, within, e.0 (subst (λ (l : List ℕ). EndsFull l) same found.3))
  ],
  λ found.
      let fits = element_room s (d + p) n found.0 (length words) found.1 room in
      let e = stretch_ends_full words (s + found.0 * (d + p)) d (first + found.0 * (d + p)) (omega arith) some (omega arith) in
      inr (found.0, words_from words (s + found.0 * (d + p)) d, elements_at words s d p n found.0 found.1, e.1 found.2),
)

-- pointer words
links-append : (words : List ℕ) (xs ys : List Place) → links_at words (xs ++ ys) ≡ links_at words xs ++ links_at words ys
links-append words [] ys = refl
links-append words (x ∷ xs) ys = ap (λ (l : List ℕ). slice_index_or words x.word 0 ∷ l) (links-append words xs ys)

pub links_places : (words : List ℕ) (number s n : ℕ) → s + n ≤ length words → links_at words (places number s n) ≡ words_from words s n
links_places words number s zero room = refl
links_places words number s (suc n) room =
    ap (λ (l : List ℕ). slice_index_or words s 0 ∷ l) (links_places words number (s + 1) n (omega arith))
    ∙ sym (ap (λ (l : List ℕ). take (suc n) l) (drop_first words s (omega arith)))

length-links : (words : List ℕ) (number s n : ℕ) → length (links_at words (places number s n)) ≡ n
length-links words number s zero = refl
length-links words number s (suc n) = ap (λ (k : ℕ). suc k) (length-links words number (s + 1) n)

link_in : (words : List ℕ) (number s n j : ℕ) → j < n → slice_index_or (links_at words (places number s n)) j 0 ≡ slice_index_or words (s + j) 0
link_in words number s zero j less = absurd (omega arith)
link_in words number s (suc n) zero less = let here : s ≡ s + 0 = omega arith in ap (λ (k : ℕ). slice_index_or words k 0) here
link_in words number s (suc n) (suc j) less =
    let here : s + 1 + j ≡ s + suc j = omega arith in
    link_in words number (s + 1) n j (omega arith) ∙ ap (λ (k : ℕ). slice_index_or words k 0) here

pub link_of_element : (words : List ℕ) (number s d p n i j k : ℕ) → i < n → j < p → k ≡ i * p + j
    → slice_index_or (links_at words (pointer_places number s d p n)) k 0 ≡ slice_index_or words (s + i * (d + p) + d + j) 0
link_of_element words number s d p zero i j k less few is = absurd (omega arith)
link_of_element words number s d p (suc n) zero j k less few is =
    let own = links_at words (places number (s + d) p) in
    let others = links_at words (pointer_places number (s + d + p) d p n) in
    let long : length own ≡ p = length-links words number (s + d) p in
    let at : k ≡ j = omega arith in
    let here : s + d + j ≡ s + 0 * (d + p) + d + j = omega arith in
    ap (λ (l : List ℕ). slice_index_or l k 0) (links-append words (places number (s + d) p) (pointer_places number (s + d + p) d p n))
    ∙ get_or_append_left own others 0 k (omega arith) ∙ ap (λ (i : ℕ). slice_index_or own i 0) at
    ∙ link_in words number (s + d) p j few ∙ ap (λ (i : ℕ). slice_index_or words i 0) here
link_of_element words number s d p (suc n) (suc i) j k less few is =
    let own = links_at words (places number (s + d) p) in
    let others = links_at words (pointer_places number (s + d + p) d p n) in
    let long : length own ≡ p = length-links words number (s + d) p in
    let at : k ≡ length own + (i * p + j) = omega arith in
    let here : s + d + p + i * (d + p) + d + j ≡ s + suc i * (d + p) + d + j = omega arith in
    ap (λ (l : List ℕ). slice_index_or l k 0) (links-append words (places number (s + d) p) (pointer_places number (s + d + p) d p n))
    ∙ ap (λ (i : ℕ). slice_index_or (own ++ others) i 0) at ∙ get_or-append-add own others (i * p + j) 0
    ∙ link_of_element words number (s + d + p) d p n i j (i * p + j) (omega arith) few refl ∙ ap (λ (i : ℕ). slice_index_or words i 0) here

pub need_pointers : (words : List ℕ) (number s d p n first : ℕ) → 0 < p → first + 1 ≡ s + d + p
    → NeedPointers p n (links_at words (pointer_places number s d p n)) ↔ ((i : ℕ) × (i < n) × (slice_index_or words (first + i * (d + p)) 0 ≢ 0))
need_pointers words number s d p n first some at =
    let same : (i : ℕ) → i < n → slice_index_or (links_at words (pointer_places number s d p n)) (i * p + p - 1) 0 ≡ slice_index_or words (first + i * (d + p)) 0 = λ i less.
    let here : s + i * (d + p) + d + (p - 1) ≡ first + i * (d + p) = omega arith in
    link_of_element words number s d p n i (p - 1) (i * p + p - 1) less (omega arith) (omega arith) ∙ ap (λ (k : ℕ). slice_index_or words k 0) here in (
      λ need. elim need [
        | inl none ↦ absurd (omega arith)
        | inr found ↦ (found.0, found.1, λ is. found.2 (same found.0 found.1 ∙ is))
      ],
      λ found. inr (found.0, found.1, λ is. found.2 (sym (same found.0 found.1) ∙ is)),
    )
