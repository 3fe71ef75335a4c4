-- The elements of a list of structs need all their pointers exactly where they have none, or where the last one of
-- some element is not null.
use Rattle.std.proofs.Common.{◌≡◌, inl, inr, ℕ, zero, suc, ◌+◌, ◌*◌, ◌<◌, ◌≤◌, List, [], ◌∷◌, length, Some, refl, sym, ◌∙◌, ap, arith, ◌⊎◌}
use Rattle.std.proofs.lemmas.Bool.{cases_lt}
use Rattle.capnp_layout.specs.Prelude.{null, Trees, none, tree, count, first, following, cut_nulls, least_pointers}
use Rattle.capnp_wire.specs.Prelude.{nth_form, EndsSome}
use Rattle.capnp_layout.proofs.trees.TreePartsSizeAndPropertiesLemmas.{least_pointers_within}
use Rattle.capnp_layout.proofs.trees.PointerNarrowingIdempotenceLemmas.{elements_split}
use Rattle.capnp_wire.proofs.forms.ObjectTrimmedByLastWordsLemmas.{fewer, some_same}
use Rattle.std.specs.Prelude.{◌↔◌}

nth-first : (n : ℕ) (trees : Trees) (k : ℕ) → k < n → nth_form (first n trees) k ≡ nth_form trees k
nth-first zero trees k less = absurd (omega arith)
nth-first (suc n) none k less = refl
nth-first (suc n) (tree form children rest) zero less = refl
nth-first (suc n) (tree form children rest) (suc k) less = nth-first n rest k (omega arith)

nth-following : (n : ℕ) (trees : Trees) (j i : ℕ) → n + j ≡ i → nth_form (following n trees) j ≡ nth_form trees i
nth-following zero trees j i same = ap (nth_form trees) (omega arith)
nth-following (suc n) none j i same = refl
nth-following (suc n) (tree form children rest) j zero same = absurd (omega arith)
nth-following (suc n) (tree form children rest) j (suc i) same = nth-following n rest j i (omega arith)

abbrev NeedsIn : ℕ → ℕ → List (List ℕ) → Trees → Type 0
NeedsIn p k elements children = (i : ℕ) × (i < length elements) × (nth_form children (i * p + k) ≡ Some null → ⊥)

found_in : (p k : ℕ) (elements : List (List ℕ)) (children : Trees) → p ≡ k + 1 → count children ≡ length elements * p → least_pointers p elements children ≡ p → NeedsIn p k elements children
found_in p k [] children some long same = absurd (omega arith)
found_in p k (element ∷ elements) children some long same =
    let s = elements_split p p elements children (omega arith) long in
    elim (cases_lt (least_pointers p elements (following p children)) p) [
      | inl less ↦ (
        0,
        omega arith,
        λ last.
            let here : nth_form (first p children) k ≡ Some null = nth-first p children k (omega arith) ∙ (ap (nth_form children) (omega arith) ∙ last) in
            omega (arith, fewer (first p children) k (omega (arith, s.whole)) here),
      )
      | inr most ↦
          let rest = found_in p k elements (following p children) some s.others (omega (arith, least_pointers_within p elements (following p children))) in
          (suc rest.0, omega (arith, rest.1), λ last. rest.2 (nth-following p children (rest.0 * p + k) (suc rest.0 * p + k) (omega arith) ∙ last))
    ]

needed_in : (p k : ℕ) (elements : List (List ℕ)) (children : Trees) (i : ℕ) → p ≡ k + 1 → count children ≡ length elements * p → i < length elements → (nth_form children (i * p + k) ≡ Some null → ⊥)
    → p ≤ least_pointers p elements children
needed_in p k [] children i some long less full = absurd (omega arith)
needed_in p k (element ∷ elements) children zero some long less full =
    let s = elements_split p p elements children (omega arith) long in
    let ends : EndsSome (first p children) = λ j many last.
    let place : j ≡ k = omega (arith, s.whole) in
    full (ap (nth_form children) (omega arith) ∙ (sym (nth-first p children j (omega arith)) ∙ last)) in
    let same : count (cut_nulls (first p children)) ≡ count (first p children) = ap count (some_same (first p children) ends) in
    omega (arith, s.whole)
needed_in p k (element ∷ elements) children (suc i) some long less full =
    let s = elements_split p p elements children (omega arith) long in
    let rest = needed_in p k elements (following p children) i some s.others (omega arith) (λ last. full (sym (nth-following p children (i * p + k) (suc i * p + k) (omega arith)) ∙ last)) in
    omega arith

-- and all their pointers where there are none, or the last one of an element is not null
pub elements_need_pointers : (p : ℕ) (elements : List (List ℕ)) (children : Trees) → count children ≡ length elements * p
    → (least_pointers p elements children ≡ p) ↔ ((p ≡ 0) ⊎ ((k : ℕ) × (p ≡ k + 1) × (i : ℕ) × (i < length elements) × (nth_form children (i * p + k) ≡ Some null → ⊥)))
elements_need_pointers zero elements children long = (λ same. inl refl, λ c. omega (arith, least_pointers_within 0 elements children))
elements_need_pointers (suc k) elements children long = (
  λ same. let found = found_in (suc k) k elements children (omega arith) long same in inr (k, omega arith, found.0, found.1, found.2),
  λ c. elim c [
    | inl nothing ↦ absurd (omega arith)
    | inr found ↦ omega (arith, least_pointers_within (suc k) elements children, needed_in (suc k) found.0 elements children found.2 found.1 long found.3 found.4)
  ],
)
