-- The trees of a message: the objects at places, and everything that they point to.
use Rattle.std.specs.Prelude.{ℕ, ◌+◌, List, [], ◌∷◌}
use Rattle.capnp_layout.specs.Tree.{Form, Trees, none, tree}
use Rattle.capnp_layout.specs.Object.{Shape, PointsTo}
use Rattle.capnp_layout.specs.declared.place.Place.{Place}

-- the trees at places, and what all their objects count against the traversal limit, each as often
-- as a pointer points to it
pub data At (m : List (List ℕ)) : List Place → Trees → ℕ → Type 0 where
  nowhere : At m [] none 0
  at : {place : Place} {others : List Place} {shape : Shape} {children rest : Trees} {inside following : ℕ} → PointsTo m place shape
      → At m shape.children children inside → At m others rest following
      → At m (place ∷ others) (tree shape.form children rest) (shape.traversed + inside + following)

abbrev pub root : Place
root = record { segment = 0; word = 0 }

-- the tree at the first word of the first segment
abbrev pub Root : List (List ℕ) → Form → Trees → ℕ → Type 0
Root m form children traversed = At m (root ∷ []) (tree form children none) traversed

-- a place is one of some places
pub data IsIn (place : Place) : List Place → Type 0 where
  here : {others : List Place} → IsIn place (place ∷ others)
  there : {other : Place} {others : List Place} → IsIn place others → IsIn place (other ∷ others)

-- the object at a place has a pointer to the other place, or a chain of pointers goes there
pub data Below (m : List (List ℕ)) : Place → Place → Type 0 where
  directly : {place inner : Place} {shape : Shape} → PointsTo m place shape → IsIn inner shape.children → Below m place inner
  further : {place middle inner : Place} → Below m place middle → Below m middle inner → Below m place inner
