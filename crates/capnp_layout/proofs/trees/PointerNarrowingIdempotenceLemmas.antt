-- Narrowing the pointer sections of elements a second time to as many pointers changes nothing.
use Rattle.std.proofs.Common.{◌≡◌, ℕ, zero, suc, ◌+◌, ◌*◌, ◌≤◌, List, [], ◌∷◌, length, map, refl, ap, arith}
use Rattle.capnp_layout.specs.Prelude.{Trees, none, tree, count, first, following, before, cut_nulls, least_pointers, narrowed}
use Rattle.capnp_layout.proofs.trees.TreePartsSizeAndPropertiesLemmas.{cut-first, count-first, count-following}

pub first-before : (n : ℕ) (trees others : Trees) → count trees ≡ n → first n (before trees others) ≡ trees
first-before zero none others long = refl
first-before (suc n) none others long = absurd (omega arith)
first-before zero (tree form children rest) others long = absurd (omega arith)
first-before (suc n) (tree form children rest) others long = ap (λ (t : Trees). tree form children t) (first-before n rest others (omega arith))

pub following-before : (n : ℕ) (trees others : Trees) → count trees ≡ n → following n (before trees others) ≡ others
following-before zero none others long = refl
following-before (suc n) none others long = absurd (omega arith)
following-before zero (tree form children rest) others long = absurd (omega arith)
following-before (suc n) (tree form children rest) others long = following-before n rest others (omega arith)

pub first_all : (n : ℕ) (trees : Trees) → count trees ≡ n → first n trees ≡ trees
first_all zero none long = refl
first_all (suc n) none long = absurd (omega arith)
first_all zero (tree form children rest) long = absurd (omega arith)
first_all (suc n) (tree form children rest) long = ap (λ (t : Trees). tree form children t) (first_all n rest (omega arith))

-- the pointers of the first element, and how many are after it
pub record ElementSplit (n p : ℕ) (elements : List (List ℕ)) (children : Trees) : Type 0 where
  pub whole : count (first p children) ≡ p
  some : count (first n (first p children)) ≡ n
  pub others : count (following p children) ≡ length elements * p

pub elements_split : (n p : ℕ) (elements : List (List ℕ)) (children : Trees) → n ≤ p → count children ≡ suc (length elements) * p → ElementSplit n p elements children
elements_split n p elements children le long =
    let split : suc (length elements) * p ≡ p + length elements * p = omega arith in
    let own : count (first p children) ≡ p = count-first p children (omega arith) in
    record { whole = own; some = count-first n (first p children) (omega arith); others = omega (arith, count-following p children (omega arith)) }

pub least-narrowed : (f : List ℕ → List ℕ) (n p : ℕ) (elements : List (List ℕ)) (children : Trees) → n ≤ p → count children ≡ length elements * p → least_pointers p elements children ≤ n
    → least_pointers n (map f elements) (narrowed n p elements children) ≡ least_pointers p elements children
least-narrowed f n p [] children le long few = refl
least-narrowed f n p (element ∷ elements) children le long few =
    let s = elements_split n p elements children le long in
    let one : first n (before (first n (first p children)) (narrowed n p elements (following p children))) ≡ first n (first p children) = first-before n (first n (first p children)) (narrowed n p elements
    (following p children)) s.some in
    let more : following n (before (first n (first p children)) (narrowed n p elements (following p children))) ≡ narrowed n p elements (following p children) = following-before n (first n (first p children)) (narrowed n p elements
    (following p children)) s.some in
    let cut : cut_nulls (first n (first p children)) ≡ cut_nulls (first p children) = cut-first n (first p children) (omega arith) in
    let rest : least_pointers n (map f elements) (narrowed n p elements (following p children)) ≡ least_pointers p elements (following p children) = least-narrowed f n p elements (following p children) le s.others (omega arith) in
    rw (one, more, cut, rest) refl

pub narrowed-narrowed : (f : List ℕ → List ℕ) (n p : ℕ) (elements : List (List ℕ)) (children : Trees) → n ≤ p → count children ≡ length elements * p
    → narrowed n n (map f elements) (narrowed n p elements children) ≡ narrowed n p elements children
narrowed-narrowed f n p [] children le long = refl
narrowed-narrowed f n p (element ∷ elements) children le long =
    let s = elements_split n p elements children le long in
    let one : first n (before (first n (first p children)) (narrowed n p elements (following p children))) ≡ first n (first p children) = first-before n (first n (first p children)) (narrowed n p elements
    (following p children)) s.some in
    let more : following n (before (first n (first p children)) (narrowed n p elements (following p children))) ≡ narrowed n p elements (following p children) = following-before n (first n (first p children)) (narrowed n p elements
    (following p children)) s.some in
    let same : first n (first n (first p children)) ≡ first n (first p children) = first_all n (first n (first p children)) s.some in
    let rest : narrowed n n (map f elements) (narrowed n p elements (following p children)) ≡ narrowed n p elements (following p children) = narrowed-narrowed f n p elements (following p children) le s.others in
    rw (one, more, same, rest) refl
