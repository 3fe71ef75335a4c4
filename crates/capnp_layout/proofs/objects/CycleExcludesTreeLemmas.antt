-- Where a chain of pointers goes from an object back to it, there is no tree.
use Rattle.std.proofs.Common.{◌≡◌, ℕ, ◌+◌, ◌<◌, ◌≤◌, List, [], ◌∷◌, subst, arith}
use Rattle.capnp_layout.specs.Prelude.{Form, Trees, none, tree, At, nowhere, at, IsIn, here, there, Below, directly, further}
use Rattle.capnp_layout.specs.declared.place.Place.{Place}
use Rattle.capnp_layout.proofs.objects.UniqueObjectLemmas.{one_object, one_tree}

-- how many pointers trees have
objects : Trees → ℕ
objects none = 0
objects (tree form children rest) = 1 + objects children + objects rest

-- there is a tree at a place, with fewer than n pointers
record Smaller (m : List (List ℕ)) (place : Place) (n : ℕ) : Type 0 where
  form : Form
  children : Trees
  traversed : ℕ
  is_at : At m (place ∷ []) (tree form children none) traversed
  fewer : objects children < n

smaller_up : (m : List (List ℕ)) (place : Place) (n k : ℕ) → n ≤ k → Smaller m place n → Smaller m place k
smaller_up m place n k le s = record { form = s.form; children = s.children; traversed = s.traversed; is_at = s.is_at; fewer = omega arith }

among : (m : List (List ℕ)) (place : Place) (places : List Place) (trees : Trees) (traversed : ℕ) → IsIn place places → At m places trees traversed → Smaller m place (objects trees)
unfolding objects
among m place places trees traversed here (at {shape = s} {children = h} {rest = r} {inside = i} o inner after) =
    record { form = s.form; children = h; traversed = s.traversed + i + 0; is_at = at o inner nowhere; fewer = omega arith }
among m place places trees traversed (there {others = others} e) (at {shape = s} {children = h} {rest = r} {following = n} o inner after) =
    smaller_up m place (objects r) (1 + objects h + objects r) (omega arith) (among m place others r n e after)

below : (m : List (List ℕ)) (place inner : Place) → Below m place inner → (form : Form) (children : Trees) (traversed : ℕ) → At m (place ∷ []) (tree form children none) traversed → Smaller m inner (objects children)
below m place inner (directly {shape = s} o e) form children traversed (at {shape = t} {inside = i} o' inside _) =
    among m inner s.children children i e (subst (λ z. At m z.children children i) (one_object m place t s o' o) inside)
below m place inner (further {middle = middle} b c) form children traversed is_at =
    let first = below m place middle b form children traversed is_at in
    let second = below m middle inner c first.form first.children first.traversed first.is_at in
    smaller_up m inner (objects first.children) (objects children) (omega arith) second

pub no_cycle : (m : List (List ℕ)) (place : Place) (form : Form) (children : Trees) (traversed : ℕ) → Below m place place → At m (place ∷ []) (tree form children none) traversed → ⊥
no_cycle m place form children traversed b is_at =
    let s = below m place place b form children traversed is_at in
    let same = one_tree m (place ∷ []) (tree form children none) (tree s.form s.children none) traversed s.traversed is_at s.is_at in
    let trees : children ≡ s.children = cc in
    let counts : objects children ≡ objects s.children = cc in
    omega arith
