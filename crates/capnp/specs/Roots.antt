-- The root of a message that is read.
use Rattle.std.specs.Prelude.{ℕ, List, [], ◌∷◌}
use Rattle.capnp_layout.specs.Prelude.{Trees, message_of, At, root}

-- these trees are at the root
abbrev pub HasRootTree : List (List ℕ) → Trees → Type 0
HasRootTree segments trees = (traversed : ℕ) × At (message_of segments) (root ∷ []) trees traversed
