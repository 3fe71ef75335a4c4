-- What may still be counted against the traversal limit, and trees with what they count.
use Rattle.std.specs.Prelude.{◌≡◌, ℕ, ◌-◌, ◌<◌, ◌≤◌, List, Option, Some, None, IfSome}
use Rattle.capnp_layout.specs.Tree.{Trees, depth, total_words}
use Rattle.capnp_layout.specs.Reached.{At}
use Rattle.capnp_layout.specs.declared.place.Place.{Place}

-- the words counted are within the limit, where there is one
abbrev pub Within : Option ℕ → ℕ → Type 0
Within limit traversed = IfSome limit (λ most. traversed ≤ most)

-- what is left of the limit
abbrev pub less : Option ℕ → ℕ → Option ℕ
less None traversed = None
less (Some most) traversed = Some (most - traversed)

-- the words counted are past the limit
abbrev pub IsPastLimit : Option ℕ → ℕ → Type 0
IsPastLimit limit traversed = (most : ℕ) × (limit ≡ Some most) × (most < traversed)

-- trees are at places, no deeper than the nesting depth left; this many words are traversed, and
-- the trees have this many words
pub record TreesAt (m : List (List ℕ)) (at : List Place) (nesting traversed words : ℕ) : Type 0 where
  pub trees : Trees
  pub are_at : At m at trees traversed
  pub shallow : depth trees ≤ nesting
  pub words_are : total_words trees ≡ words
