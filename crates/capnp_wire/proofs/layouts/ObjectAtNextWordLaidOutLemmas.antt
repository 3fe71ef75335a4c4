-- An object at the next free word is in place: its pointers are in the slots of the layout, and with their words
-- its own words are the layout's.
use Rattle.std.proofs.Common.{◌≡◌, ℕ, zero, suc, ◌+◌, ◌*◌, ◌^◌, ◌≤◌, List, [], ◌∷◌, ◌++◌, length, take, drop, Some, slice_get, refl, sym, ◌∙◌, ap, subst, arith, length-append, length-take}
use Rattle.std.proofs.Common.{length-drop, append_assoc}
use Rattle.std.proofs.lemmas.List.{take-append-drop, drop_at}
use Rattle.std.proofs.lemmas.Option.{slice_get_within}
use Rattle.capnp_layout.specs.Prelude.{digits, number_of, words_from, pointer_kind, offset, data_words, pointer_words, code, list_count, struct_pointer, run, element_runs, slots, woven, own, placed, width, words_for, Form, struct, numbers, pointers, structs, Shape, ShapeIsAt, places, pointer_places, elements_from, a_struct, some_numbers, some_pointers, some_structs}
use Rattle.capnp_layout.specs.declared.place.Place.{Place}
use Rattle.capnp_wire.specs.Prelude.{Padded}
use Rattle.capnp_layout.proofs.words.WordRunPartsInSegmentLemmas.{Holds, holds_none, holds_same}
use Rattle.capnp_layout.proofs.words.DigitsToNumberAndBackLemmas.{length-digits}
use Rattle.capnp_layout.proofs.layouts.LayoutSizeLemmas.{length-run}
use Rattle.capnp_layout.proofs.pointers.LayoutSlotPointersAndPlacesLemmas.{Linked, placed-run, placed-element_runs}
use Rattle.capnp_layout.proofs.objects.SectionWordByIndexLemmas.{length-places}
use Rattle.capnp_layout.proofs.trees.ReadTreeSizesAndWordsBoundedLemmas.{length-pointer_places, length-elements_from}

holds_rest : (segment : List ℕ) (start : ℕ) (words : List ℕ) (h : Holds segment start words) → drop (start + length words) segment ≡ h.rest
holds_rest segment start words h =
    let long : length (h.front ++ words) ≡ start + length words = omega (arith, length-append h.front words, h.begins) in
    let cut : drop (start + length words) (h.front ++ words ++ h.rest) ≡ h.rest = drop_at (h.front ++ words) h.rest (start + length words) long in
    ap (λ (l : List ℕ). drop (start + length words) l) (h.parts ∙ sym (append_assoc h.front words h.rest)) ∙ cut

-- words after others
pub holds_join : (segment : List ℕ) (start next : ℕ) (xs ys : List ℕ) → start + length xs ≡ next → Holds segment start xs → Holds segment next ys → Holds segment start (xs ++ ys)
holds_join segment start next xs ys here a b =
    let end_a : drop next segment ≡ a.rest = ap (λ (n : ℕ). drop n segment) (sym here) ∙ holds_rest segment start xs a in
    let whole : segment ≡ b.front ++ (ys ++ b.rest) = b.parts in
    let end_b : drop next segment ≡ ys ++ b.rest = rw (b.parts) (drop_at b.front (ys ++ b.rest) next b.begins) in
    let same : a.rest ≡ ys ++ b.rest = cc in
    record {
      front = a.front;
      rest = b.rest;
      parts = a.parts ∙ ap (λ (l : List ℕ). a.front ++ l) (ap (λ (l : List ℕ). xs ++ l) same ∙ sym (append_assoc xs ys b.rest));
      begins = a.begins;
    }

pub holds_from : (segment : List ℕ) (start n : ℕ) → start + n ≤ length segment → Holds segment start (words_from segment start n)
holds_from segment start n room = record {
  front = take start segment;
  rest = drop n (drop start segment);
  parts = sym (ap (λ (l : List ℕ). take start segment ++ l) (take-append-drop n (drop start segment)) ∙ take-append-drop start segment);
  begins = omega (arith, length-take start segment);
}

pub holds_one : (segment : List ℕ) (start x : ℕ) → slice_get segment start ≡ Some x → Holds segment start (x ∷ [])
holds_one [] start x is = absurd (omega (arith, slice_get_within [] start x is))
holds_one (y ∷ segment) zero x is = let same : y ≡ x = cc in record { front = []; rest = segment; parts = ap (λ (z : ℕ). z ∷ segment) same; begins = refl }
holds_one (y ∷ segment) (suc start) x is =
    let h = holds_one segment start x is in
    record { front = y ∷ h.front; rest = h.rest; parts = ap (λ (l : List ℕ). y ∷ l) h.parts; begins = ap (λ (n : ℕ). suc n) h.begins }

run_linked : (segment : List ℕ) (base at start : ℕ) (links : List ℕ) → base + start ≡ at → at ≤ length segment → Linked segment base (run start (length links)) links → Holds segment at links
run_linked segment base at start [] here room linked = holds_none segment at room
run_linked segment base at start (x ∷ xs) here room linked =
    let first : slice_get segment at ≡ Some x = rw (← here) linked.0 in
    let rest : Holds segment (at + 1) xs = run_linked segment base (at + 1) (start + 1) xs (omega arith) (omega (arith, slice_get_within segment at x first)) linked.1 in
    holds_join segment at (at + 1) (x ∷ []) xs refl (holds_one segment at x first) rest

record Cut (segment : List ℕ) (base : ℕ) (s t links : List ℕ) : Type 0 where
  left : Linked segment base s (take (length s) links)
  right : Linked segment base t (drop (length s) links)
  long : length s ≤ length links

linked_cut : (segment : List ℕ) (base : ℕ) (s t links : List ℕ) → Linked segment base (s ++ t) links → Cut segment base s t links
linked_cut segment base [] t links linked = record { left = refl; right = linked; long = omega arith }
linked_cut segment base (x ∷ s) t [] linked = absurd linked
linked_cut segment base (x ∷ s) t (l ∷ links) linked =
    let rest = linked_cut segment base s t links linked.1 in
    record { left = (linked.0, rest.left); right = rest.right; long = omega (arith, rest.long) }

elements_linked : (segment : List ℕ) (base at start d p n : ℕ) (links : List ℕ) → base + start ≡ at → at + n * (d + p) ≤ length segment
    → Linked segment base (element_runs start d p (elements_from segment at d p n)) links → Holds segment at (woven p (elements_from segment at d p n) links)
elements_linked segment base at start d p zero links here room linked = holds_none segment at (omega arith)
elements_linked segment base at start d p (suc n) links here room linked =
    let split : suc n * (d + p) ≡ (d + p) + n * (d + p) = omega arith in
    let cut = linked_cut segment base (run (start + d) p) (element_runs (start + d + p) d p (elements_from segment (at + d + p) d p n)) links linked in
    let long : length (run (start + d) p) ≡ p = length-run (start + d) p in
    let enough : p ≤ length links = omega (arith, cut.long) in
    let own_long : length (take p links) ≡ p = omega (arith, length-take p links) in
    let wide : length (words_from segment at d) ≡ d = omega (arith, length-take d (drop at segment), length-drop at segment) in
    let left : Linked segment base (run (start + d) p) (take p links) = subst (λ (k : ℕ). Linked segment base (run (start + d) p) (take k links)) long cut.left in
    let right : Linked segment base (element_runs (start + d + p) d p (elements_from segment (at + d + p) d p n)) (drop p links) =
    subst (λ (k : ℕ). Linked segment base (element_runs (start + d + p) d p (elements_from segment (at + d + p) d p n)) (drop k links)) long cut.right in
    let own : Holds segment (at + d) (take p links) =
    run_linked segment base (at + d) (start + d) (take p links) (omega arith) (omega arith) (subst (λ (k : ℕ). Linked segment base (run (start + d) k) (take p links)) (sym own_long) left) in
    let others = elements_linked segment base (at + d + p) (start + d + p) d p n (drop p links) (omega arith) (omega arith) right in
    let front : Holds segment at (words_from segment at d ++ take p links) =
    holds_join segment at (at + d) (words_from segment at d) (take p links) (omega arith) (holds_from segment at d (omega arith)) own in
    holds_join segment at (at + d + p) (words_from segment at d ++ take p links) (woven p (elements_from segment (at + d + p) d p n) (drop p links))
    (omega (arith, length-append (words_from segment at d) (take p links))) front others

-- the pointers are where they belong, and then so are the object's own words
pub record Exactly (segment : List ℕ) (next : ℕ) (form : Form) (children : List Place) (n : ℕ) : Type 0 where
  pub children_is : children ≡ placed 0 next (slots form n)
  pub holds : (links : List ℕ) → length links ≡ n → Linked segment next (slots form n) links → Holds segment next (own form links)

exactly_struct : (segment : List ℕ) (next d p : ℕ) → next + d + p ≤ length segment → Exactly segment next (struct (words_from segment next d)) (places 0 (next + d) p) p
exactly_struct segment next d p room =
    let wide : length (words_from segment next d) ≡ d = omega (arith, length-take d (drop next segment), length-drop next segment) in
    let there : placed 0 next (run (length (words_from segment next d)) p) ≡ places 0 (next + d) p = placed-run 0 next (next + d) (length (words_from segment next d)) p (omega arith) in
    record {
      children_is = sym there;
      holds = λ links long linked.
          let all : Linked segment next (run (length (words_from segment next d)) (length links)) links = subst (λ (k : ℕ). Linked segment next (run (length
          (words_from segment next d)) k) links) (sym long) linked in
          let own_links : Holds segment (next + d) links = run_linked segment next (next + d) (length (words_from segment next d)) links (omega arith) (omega arith) all in
          holds_join segment next (next + d) (words_from segment next d) links (omega arith) (holds_from segment next d (omega arith)) own_links;
    }

exactly_numbers : (segment : List ℕ) (next c n : ℕ) (values : List ℕ) → length values ≡ n → next + words_for n (width c) ≤ length segment → Padded segment next (numbers c values)
    → Exactly segment next (numbers c values) [] 0
exactly_numbers segment next c n values long room padded =
    let within : next + words_for (length values) (width c) ≤ length segment = rw long room in
    record {
      children_is = refl;
      holds = λ links none linked. holds_same segment next (words_from segment next (words_for (length values) (width c))) (own (numbers c values) links) padded (holds_from segment next
          (words_for (length values) (width c)) within);
    }

exactly_pointers : (segment : List ℕ) (next p : ℕ) → next + p ≤ length segment → Exactly segment next pointers (places 0 next p) p
exactly_pointers segment next p room =
    let there : placed 0 next (run 0 p) ≡ places 0 next p = placed-run 0 next next 0 p (omega arith) in
    record {
      children_is = sym there;
      holds = λ links long linked.
          run_linked segment next next 0 links (omega arith) (omega arith) (subst (λ (k : ℕ). Linked segment next (run 0 k) links) (sym long) linked);
    }

exactly_structs : (segment : List ℕ) (next inner d p k : ℕ) → next + 1 + k * (d + p) ≤ length segment → slice_get segment next ≡ Some inner → inner ≡ struct_pointer k d p
    → Exactly segment next (structs d p (elements_from segment (next + 1) d p k)) (pointer_places 0 (next + 1) d p k) (k * p)
exactly_structs segment next inner d p k room there is =
    let many : length (elements_from segment (next + 1) d p k) ≡ k = length-elements_from segment (next + 1) d p k in
    let are_at : placed 0 next (element_runs 1 d p (elements_from segment (next + 1) d p k)) ≡ pointer_places 0 (next + 1) d p (length (elements_from segment (next + 1) d p k)) =
    placed-element_runs 0 next (next + 1) 1 d p (elements_from segment (next + 1) d p k) refl in
    let are_at_k : placed 0 next (element_runs 1 d p (elements_from segment (next + 1) d p k)) ≡ pointer_places 0 (next + 1) d p k = are_at ∙ ap (pointer_places 0 (next + 1) d p) many in
    record {
      children_is = sym are_at_k;
      holds = λ links long linked.
          let tag_is : inner ≡ struct_pointer (length (elements_from segment (next + 1) d p k)) d p = is ∙ ap (λ (n : ℕ). struct_pointer n d p) (sym many) in
          let front : Holds segment next (struct_pointer (length (elements_from segment (next + 1) d p k)) d p ∷ []) =
          subst (λ (w : ℕ). Holds segment next (w ∷ [])) tag_is (holds_one segment next inner there) in
          let back = elements_linked segment next (next + 1) 1 d p k links refl room linked in
          holds_join segment next (next + 1) (struct_pointer (length (elements_from segment (next + 1) d p k)) d p ∷ []) (woven p (elements_from segment (next + 1) d p k) links) refl front back;
    }

struct_parts : (word : ℕ) → pointer_kind word ≡ 0 → word ≡ struct_pointer (offset word) (data_words word) (pointer_words word)
struct_parts word k = omega arith

pub tag_exactly : (segment : List ℕ) (next tag : ℕ) (shape : Shape) (n : ℕ) → ShapeIsAt segment (record { segment = 0; word = next }) tag shape → length shape.children ≡ n → Padded segment next shape.form
    → Exactly segment next shape.form shape.children n
tag_exactly segment next tag shape n (a_struct k room) long padded =
    let same : pointer_words tag ≡ n = omega (arith, length-places 0 (next + data_words tag) (pointer_words tag)) in
    subst (λ (i : ℕ). Exactly segment next (struct (words_from segment next (data_words tag))) (places 0 (next + data_words tag) (pointer_words tag)) i) same
    (exactly_struct segment next (data_words tag) (pointer_words tag) room)
tag_exactly segment next tag shape n (some_numbers k c room) long padded =
    let numerals : List ℕ = digits (2 ^ width (code tag)) (list_count tag) (number_of (2 ^ 64) (words_from segment next (words_for (list_count tag) (width (code tag))))) in
    subst (λ (i : ℕ). Exactly segment next (numbers (code tag) (digits (2 ^ width (code tag)) (list_count tag) (number_of (2 ^ 64) (words_from segment next (words_for (list_count tag) (width
    (code tag))))))) [] i) long
    (exactly_numbers segment next (code tag) (list_count tag) (digits (2 ^ width (code tag)) (list_count tag) (number_of (2 ^ 64) (words_from segment next (words_for (list_count tag) (width
    (code tag))))))
    (length-digits (2 ^ width (code tag)) (list_count tag) (number_of (2 ^ 64) (words_from segment next (words_for (list_count tag) (width (code tag)))))) room padded)
tag_exactly segment next tag shape n (some_pointers k c room) long padded =
    let same : list_count tag ≡ n = omega (arith, length-places 0 next (list_count tag)) in
    subst (λ (i : ℕ). Exactly segment next pointers (places 0 next (list_count tag)) i) same (exactly_pointers segment next (list_count tag) room)
tag_exactly segment next tag shape n (some_structs {tag = inner} k c room there l fits) long padded =
    let tag_is : inner ≡ struct_pointer (offset inner) (data_words inner) (pointer_words inner) = struct_parts inner l in
    let same : offset inner * pointer_words inner ≡ n = omega (arith, length-pointer_places 0 (next + 1) (data_words inner) (pointer_words inner) (offset inner)) in
    subst (λ (i : ℕ). Exactly segment next (structs (data_words inner) (pointer_words inner) (elements_from segment (next + 1) (data_words inner) (pointer_words inner) (offset inner)))
    (pointer_places 0 (next + 1) (data_words inner) (pointer_words inner) (offset inner)) i) same
    (exactly_structs segment next inner (data_words inner) (pointer_words inner) (offset inner) (omega arith) there tag_is)
