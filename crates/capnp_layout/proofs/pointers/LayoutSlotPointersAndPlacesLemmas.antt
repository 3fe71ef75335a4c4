-- Pointer words in the slots of a layout, and the places of these slots: in a run, and in the elements of a list
-- of structs.
use Rattle.std.proofs.lemmas.List.{take-append-drop}
use Rattle.std.proofs.lemmas.List.Elements.{All-head, All-tail}
use Rattle.std.proofs.Common.{◌≡◌, ℕ, zero, suc, ◌+◌, ◌*◌, List, [], ◌∷◌, ◌++◌, length, take, drop, Some, slice_get, refl, sym, ap, subst, arith, length-append, length-take, length-drop}
use Rattle.std.specs.Prelude.{All}
use Rattle.capnp_layout.specs.Prelude.{words_from, places, pointer_places, elements_from, run, element_runs, woven, placed}
use Rattle.capnp_layout.specs.declared.place.Place.{Place}
use Rattle.capnp_layout.proofs.words.WordRunPartsInSegmentLemmas.{Holds, holds_left, holds_right, holds_words, holds_first}

-- each of some links is in its slot, counted from a base
abbrev pub Linked : List ℕ → ℕ → List ℕ → List ℕ → Type 0
Linked segment base [] links = links ≡ []
Linked segment base (slot ∷ slots) [] = ⊥
Linked segment base (slot ∷ slots) (link ∷ links) = (slice_get segment (base + slot) ≡ Some link) × Linked segment base slots links

pub linked_append : (segment : List ℕ) (base : ℕ) (s t xs ys : List ℕ) → Linked segment base s xs → Linked segment base t ys → Linked segment base (s ++ t) (xs ++ ys)
linked_append segment base [] t xs ys first second = subst (λ (l : List ℕ). Linked segment base t (l ++ ys)) (sym first) second
linked_append segment base (slot ∷ s) t [] ys first second = absurd first
linked_append segment base (slot ∷ s) t (x ∷ xs) ys first second = (first.0, linked_append segment base s t xs ys first.1 second)

pub linked_run : (segment : List ℕ) (base at start : ℕ) (links : List ℕ) → base + start ≡ at → Holds segment at links → Linked segment base (run start (length links)) links
linked_run segment base at start [] here h = refl
linked_run segment base at start (x ∷ xs) here h =
    let first : slice_get segment (base + start) ≡ Some x = rw here (holds_first segment at x xs h) in
    let rest : Holds segment (at + 1) xs = holds_right segment at 1 (x ∷ []) xs refl h in
    (first, linked_run segment base (at + 1) (start + 1) xs (omega arith) rest)

pub placed-append : (k base : ℕ) (s t : List ℕ) → placed k base (s ++ t) ≡ placed k base s ++ placed k base t
placed-append k base [] t = refl
placed-append k base (x ∷ s) t = ap (λ (l : List Place). record { segment = k; word = base + x } ∷ l) (placed-append k base s t)

pub placed-run : (k base at start n : ℕ) → base + start ≡ at → placed k base (run start n) ≡ places k at n
placed-run k base at start zero here = refl
placed-run k base at start (suc n) here =
    let rest : placed k base (run (start + 1) n) ≡ places k (at + 1) n = placed-run k base (at + 1) (start + 1) n (omega arith) in
    rw (here, rest) refl

pub placed-element_runs : (k base at start d p : ℕ) (elements : List (List ℕ)) → base + start ≡ at → placed k base (element_runs start d p elements) ≡ pointer_places k at d p (length elements)
placed-element_runs k base at start d p [] here = refl
placed-element_runs k base at start d p (element ∷ elements) here =
    let first : placed k base (run (start + d) p) ≡ places k (at + d) p = placed-run k base (at + d) (start + d) p (omega arith) in
    let rest : placed k base (element_runs (start + d + p) d p elements) ≡ pointer_places k (at + d + p) d p (length elements) = placed-element_runs k base (at + d + p) (start + d + p) d p elements (omega arith) in
    rw (placed-append k base (run (start + d) p) (element_runs (start + d + p) d p elements), first, rest) refl

-- elements of d words
abbrev pub AllOf : ℕ → List (List ℕ) → Type 0
AllOf d elements = All (λ element. length element ≡ d) elements

-- the parts of an element: its data, its links, and the elements after it
record ElementParts (segment : List ℕ) (at d p : ℕ) (element : List ℕ) (elements : List (List ℕ)) (links : List ℕ) : Type 0 where
  data_words : Holds segment at element
  own_links : Holds segment (at + d) (take p links)
  own_long : length (take p links) ≡ p
  others : Holds segment (at + d + p) (woven p elements (drop p links))
  others_long : length (drop p links) ≡ length elements * p

element_parts : (segment : List ℕ) (at d p : ℕ) (element : List ℕ) (elements : List (List ℕ)) (links : List ℕ) → length element ≡ d → length links ≡ suc (length elements) * p
    → Holds segment at (woven p (element ∷ elements) links) → ElementParts segment at d p element elements links
element_parts segment at d p element elements links wide long h =
    let split : suc (length elements) * p ≡ p + length elements * p = omega arith in
    let long_take : length (take p links) ≡ p = omega (arith, length-take p links) in
    let long_drop : length (drop p links) ≡ length elements * p = omega (arith, length-drop p links) in
    let both : length (element ++ take p links) ≡ d + p = omega (arith, length-append element (take p links)) in
    let front : Holds segment at (element ++ take p links) = holds_left segment at (element ++ take p links) (woven p elements (drop p links)) h in
    let back : Holds segment (at + (d + p)) (woven p elements (drop p links)) = holds_right segment at (d + p) (element ++ take p links) (woven p elements (drop p links)) both h in
    let next : at + (d + p) ≡ at + d + p = omega arith in
    record {
      data_words = holds_left segment at element (take p links) front;
      own_links = holds_right segment at d element (take p links) wide front;
      own_long = long_take;
      others = subst (λ (n : ℕ). Holds segment n (woven p elements (drop p links))) next back;
      others_long = long_drop;
    }

pub linked_elements : (segment : List ℕ) (base at start d p : ℕ) (elements : List (List ℕ)) (links : List ℕ) → base + start ≡ at → AllOf d elements → length links ≡ length elements * p
    → Holds segment at (woven p elements links) → Linked segment base (element_runs start d p elements) links
linked_elements segment base at start d p [] [] here even long h = refl
linked_elements segment base at start d p [] (x ∷ links) here even long h = absurd (omega arith)
linked_elements segment base at start d p (element ∷ elements) links here even long h =
    let parts = element_parts segment at d p element elements links (All-head (λ r. length r ≡ d) element elements even) long h in
    let first : Linked segment base (run (start + d) (length (take p links))) (take p links) = linked_run segment base (at + d) (start + d) (take p links) (omega arith) parts.own_links in
    let whole : Linked segment base (run (start + d) p) (take p links) = subst (λ (n : ℕ). Linked segment base (run (start + d) n) (take p links)) parts.own_long first in
    let rest : Linked segment base (element_runs (start + d + p) d p elements) (drop p links) =
    linked_elements segment base (at + d + p) (start + d + p) d p elements (drop p links) (omega arith) (All-tail (λ r. length r ≡ d) element elements even) parts.others_long parts.others in
    subst (λ (l : List ℕ). Linked segment base (run (start + d) p ++ element_runs (start + d + p) d p elements) l) (take-append-drop p links)
    (linked_append segment base (run (start + d) p) (element_runs (start + d + p) d p elements) (take p links) (drop p links) whole rest)

pub elements_from_woven : (segment : List ℕ) (at d p : ℕ) (elements : List (List ℕ)) (links : List ℕ) → AllOf d elements → length links ≡ length elements * p
    → Holds segment at (woven p elements links) → elements_from segment at d p (length elements) ≡ elements
elements_from_woven segment at d p [] links even long h = refl
elements_from_woven segment at d p (element ∷ elements) links even long h =
    let wide : length element ≡ d = All-head (λ r. length r ≡ d) element elements even in
    let parts = element_parts segment at d p element elements links wide long h in
    let first : words_from segment at d ≡ element = holds_words segment at d element wide parts.data_words in
    let rest : elements_from segment (at + d + p) d p (length elements) ≡ elements = elements_from_woven segment (at + d + p) d p elements (drop p links) (All-tail
    (λ r. length r ≡ d) element elements even) parts.others_long parts.others in
    cc
