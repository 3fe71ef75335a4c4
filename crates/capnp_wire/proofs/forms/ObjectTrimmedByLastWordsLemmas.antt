-- A struct is trimmed exactly where its last data word is not zero and its last pointer is not null, and a list of
-- structs where its elements need all their words.
use Rattle.std.proofs.Common.{◌≡◌, ◌⊎◌, inl, inr, ℕ, zero, suc, ◌+◌, ◌*◌, ◌≤◌, List, [], ◌∷◌, length, map, take, Some, slice_get, refl, ap, subst, arith}
use Rattle.std.proofs.lemmas.List.{take_all}
use Rattle.std.proofs.lemmas.Bool.{cases_lt}
use Rattle.std.proofs.lemmas.Option.{slice_get_within, get_or_from_slice_get}
use Rattle.std.proofs.lemmas.List.Elements.{All-head, All-tail}
use Rattle.capnp_layout.specs.Prelude.{null, struct, numbers, pointers, structs, Trees, none, tree, count, first, following, keep_word, cut_zeros, keep_tree, cut_nulls, least_data, least_pointers, narrowed, trim_form, trim_children, Shape, ShapeIsAt, a_struct, some_numbers, some_pointers, some_structs, is_null, is_object, PointsTo, word_at, HasRoom}
use Rattle.capnp_layout.specs.declared.place.Place.{Place}
use Rattle.capnp_wire.specs.Prelude.{EndsFull, nth_form, EndsSome}
use Rattle.capnp_layout.proofs.objects.UniqueObjectLemmas.{null_lands_nowhere}
use Rattle.capnp_layout.proofs.layouts.LayoutSizeLemmas.{elements_even}
use Rattle.capnp_layout.proofs.pointers.LayoutSlotPointersAndPlacesLemmas.{AllOf}
use Rattle.capnp_layout.proofs.words.TrailingZeroRemovalIdempotenceLemmas.{length-keep_word, least_data_within}
use Rattle.capnp_layout.proofs.trees.TreePartsSizeAndPropertiesLemmas.{kept, before_chunks}
use Rattle.capnp_layout.proofs.trees.PointerNarrowingIdempotenceLemmas.{elements_split, first_all}
use Rattle.std.specs.Prelude.{All, ◌↔◌}

shorter : (words : List ℕ) (k : ℕ) → length words ≡ k + 1 → slice_get words k ≡ Some 0 → length (cut_zeros words) ≤ k
shorter [] k long last = absurd (omega arith)
shorter (w ∷ []) zero long last = let empty : w ≡ 0 = cc in rw empty (omega arith)
shorter (w ∷ v ∷ words) zero long last = absurd (omega arith)
shorter (w ∷ words) (suc k) long last = omega (arith, length-keep_word (cut_zeros words) w, shorter words k (omega arith) last)

full_same : (words : List ℕ) → EndsFull words → cut_zeros words ≡ words
full_same [] full = refl
full_same (zero ∷ []) full = absurd (full 0 refl refl)
full_same (suc n ∷ []) full = refl
full_same (w ∷ v ∷ words) full =
    let rest : cut_zeros (v ∷ words) ≡ v ∷ words = full_same (v ∷ words) (λ k long last. full (suc k) (omega arith) last) in
    ap (λ (l : List ℕ). keep_word l w) rest

same_full : (words : List ℕ) → cut_zeros words ≡ words → EndsFull words
same_full words same k long last =
    let equal : length (cut_zeros words) ≡ length words = ap length same in
    omega (arith, shorter words k long last)

pub fewer : (trees : Trees) (k : ℕ) → count trees ≡ k + 1 → nth_form trees k ≡ Some null → count (cut_nulls trees) ≤ k
fewer none k long last = absurd (omega arith)
fewer (tree null children none) zero long last = omega arith
fewer (tree (struct ws) children none) zero long last = absurd (cc)
fewer (tree (numbers c vs) children none) zero long last = absurd (cc)
fewer (tree pointers children none) zero long last = absurd (cc)
fewer (tree (structs d p elements) children none) zero long last = absurd (cc)
fewer (tree form children (tree f h r)) zero long last = absurd (omega arith)
fewer (tree form children rest) (suc k) long last = let kept_here = kept (cut_nulls rest) form children in omega (arith, kept_here.most, fewer rest k (omega arith) last)

pub some_same : (trees : Trees) → EndsSome trees → cut_nulls trees ≡ trees
some_same none full = refl
some_same (tree null children none) full = absurd (full 0 refl refl)
some_same (tree (struct ws) children none) full = refl
some_same (tree (numbers c vs) children none) full = refl
some_same (tree pointers children none) full = refl
some_same (tree (structs d p elements) children none) full = refl
some_same (tree form children (tree f h r)) full =
    let rest : cut_nulls (tree f h r) ≡ tree f h r = some_same (tree f h r) (λ k long last. full (suc k) (omega arith) last) in
    ap (λ (t : Trees). keep_tree t form children) rest

same_some : (trees : Trees) → cut_nulls trees ≡ trees → EndsSome trees
same_some trees same k long last =
    let equal : count (cut_nulls trees) ≡ count trees = ap count same in
    omega (arith, fewer trees k long last)

-- a struct is trimmed where its last word is not zero and its last pointer is not null
pub struct_is_trimmed : (words : List ℕ) (children : Trees)
    → ((trim_form (struct words) children ≡ struct words) × (trim_children (struct words) children ≡ children)) ↔ (EndsFull words × EndsSome children)
struct_is_trimmed words children =
    (λ t. let same : cut_zeros words ≡ words = cc (t.0) in (same_full words same, same_some children t.1), λ t. (ap struct (full_same words t.0), some_same children t.1))

take_elements : (d : ℕ) (elements : List (List ℕ)) → AllOf d elements → map (take d) elements ≡ elements
take_elements d [] even = refl
take_elements d (element ∷ elements) even =
    let wide : length element ≡ d = All-head (λ r. length r ≡ d) element elements even in
    let one : take d element ≡ element = take_all d element (omega arith) in
    let rest : map (take d) elements ≡ elements = take_elements d elements (All-tail (λ r. length r ≡ d) element elements even) in
    cc

pub narrowed_all : (p : ℕ) (elements : List (List ℕ)) (children : Trees) → count children ≡ length elements * p → narrowed p p elements children ≡ children
narrowed_all p [] none long = refl
narrowed_all p [] (tree form children rest) long = absurd (omega arith)
narrowed_all p (element ∷ elements) children long =
    let s = elements_split p p elements children (omega arith) long in
    let one : first p (first p children) ≡ first p children = first_all p (first p children) s.whole in
    let rest : narrowed p p elements (following p children) ≡ following p children = narrowed_all p elements (following p children) s.others in
    rw (one, rest) (before_chunks p children)

-- a list of structs is trimmed where its elements need all their words
pub structs_are_trimmed : (d p : ℕ) (elements : List (List ℕ)) (children : Trees) → HasRoom (structs d p elements) (count children)
    → ((trim_form (structs d p elements) children ≡ structs d p elements) × (trim_children (structs d p elements) children ≡ children)) ↔ ((least_data elements ≡ d) × (least_pointers p elements children ≡ p))
structs_are_trimmed d p elements children room =
    let even : AllOf d elements = elements_even d elements room.5 in (
      λ t.
          let form_same : structs (least_data elements) (least_pointers p elements children) (map (take (least_data elements)) elements) ≡ structs d p elements = t.0 in
          let data_same : least_data elements ≡ d = cc in
          let links_same : least_pointers p elements children ≡ p = cc in
          (data_same, links_same),
      λ t.
          let data_same : least_data elements ≡ d = t.0 in
          let links_same : least_pointers p elements children ≡ p = t.1 in
          (rw (data_same, links_same) (ap (structs d p) (take_elements d elements even)), rw links_same (narrowed_all p elements children room.4)),
    )

not_null : (words : List ℕ) (start : Place) (tag : ℕ) (shape : Shape) → ShapeIsAt words start tag shape → shape.form ≡ null → ⊥
not_null words start tag shape (a_struct k room) same = absurd (cc)
not_null words start tag shape (some_numbers k i room) same = absurd (cc)
not_null words start tag shape (some_pointers k i room) same = absurd (cc)
not_null words start tag shape (some_structs k i room there l fits) same = absurd (cc)

-- a pointer is null where its word is zero
pub null_is_zero : (m : List (List ℕ)) (place : Place) (shape : Shape) → PointsTo m place shape → (shape.form ≡ null) ↔ (word_at m place ≡ Some 0)
null_is_zero m place shape (is_null e) = (λ t. e, λ t. refl)
null_is_zero m place shape (is_object {landing = c} {words = words} {start = start} {shape = s} lands e begins is_at) =
    (λ t. absurd (not_null words (record { segment = c.segment; word = start }) c.tag s is_at t), λ t. absurd (null_lands_nowhere m place c t lands))

-- an element that needs the most words
widest : (elements : List (List ℕ)) → (least_data elements ≡ 0) ⊎ ((i : ℕ) × (element : List ℕ) × (slice_get elements i ≡ Some element) × (length (cut_zeros element) ≡ least_data elements))
widest [] = inl refl
widest (element ∷ elements) = elim (cases_lt (length (cut_zeros element)) (least_data elements)) [
  | inl less ↦ elim (widest elements) [
    | inl nothing ↦ absurd (omega arith)
    | inr found ↦ inr (suc found.0, found.1, found.2, omega (arith, found.3))
  ]
  | inr most ↦ inr (0, element, refl, omega arith)
]

at_least : (elements : List (List ℕ)) (i : ℕ) (element : List ℕ) → slice_get elements i ≡ Some element → length (cut_zeros element) ≤ least_data elements
at_least [] i element there = absurd (omega (arith, slice_get_within [] i element there))
at_least (r ∷ elements) zero element there = let same : r ≡ element = cc in rw (← same) (omega arith)
at_least (r ∷ elements) (suc i) element there = omega (arith, at_least elements i element there)

element_wide : (d : ℕ) (elements : List (List ℕ)) (i : ℕ) (element : List ℕ) → AllOf d elements → slice_get elements i ≡ Some element → length element ≡ d
element_wide d elements i element even there = subst (λ (r : List ℕ). length r ≡ d) (get_or_from_slice_get elements i element element there) (even i element (slice_get_within elements i element there))

-- and they need all their data words where there are none, or the last one of an element is not zero
pub elements_need_data : (d : ℕ) (elements : List (List ℕ)) → All (λ element. length element ≡ d) elements → (least_data elements ≡ d) ↔ ((d ≡ 0) ⊎ ((i : ℕ) × (element : List ℕ) × (slice_get elements i ≡ Some element) × EndsFull element))
elements_need_data d elements even = (
  λ same. elim (widest elements) [
    | inl nothing ↦ inl (omega arith)
    | inr found ↦ inr (
      found.0,
      found.1,
      found.2,
      λ k long last.
          let wide : length found.1 ≡ d = element_wide d elements found.0 found.1 even found.2 in
          omega (arith, shorter found.1 k long last, found.3),
    )
  ],
  λ c. elim c [
    | inl nothing ↦ omega (arith, least_data_within d elements even)
    | inr found ↦
        let wide : length found.1 ≡ d = element_wide d elements found.0 found.1 even found.2 in
        let full : cut_zeros found.1 ≡ found.1 = full_same found.1 found.3 in
        let long : length (cut_zeros found.1) ≡ length found.1 = ap length full in
        omega (arith, least_data_within d elements even, at_least elements found.0 found.1 found.2)
  ],
)
