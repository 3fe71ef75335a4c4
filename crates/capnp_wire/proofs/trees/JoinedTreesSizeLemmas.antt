-- Trees at places are joined from null, an object over its children, and one place after another. Their words add
-- up, untrimmed or in canonical form.
use Rattle.std.proofs.Common.{ℕ, ◌+◌, ◌-◌, ◌<◌, Bool, List, [], ◌∷◌, ◌++◌, refl, sym, ◌∙◌, subst, arith}
use Rattle.capnp_layout.specs.Tree.{is_null}
use Rattle.capnp_layout.specs.Prelude.{none, tree, depth, total_words, before, Shape, PointsTo, nothing, At, nowhere, at, HasRoom, TreesAt}
use Rattle.capnp_wire.specs.Prelude.{TreesWithRoom}
use Rattle.capnp_layout.specs.declared.place.Place.{Place}
use Rattle.capnp_layout.proofs.trees.TraversalLimitCountLemmas.{at_both, depth_both, one_deeper, count_at}
use Rattle.capnp_layout.proofs.trees.TreeSizeUntrimmedAndTrimmedLemmas.{OwnOf, none_is, null_total, output_both, rooms_both}

pub plain_trees_at : (m : List (List ℕ)) (ps : List Place) (nesting x : ℕ) (c : Bool) (words : ℕ) (s : TreesWithRoom m ps nesting x c words) → TreesAt m ps nesting x (total_words s.trees)
plain_trees_at m ps nesting x c words s = record { trees = s.trees; are_at = s.are_at; shallow = s.shallow; words_are = refl }

pub placed_nowhere : (m : List (List ℕ)) (c : Bool) (nesting : ℕ) → TreesWithRoom m [] nesting 0 c 0
placed_nowhere m c nesting = record { trees = none; are_at = nowhere; shallow = omega arith; rooms = tt; words_are = none_is c }

pub placed_both : (m : List (List ℕ)) (c : Bool) (ps qs : List Place) (nesting x y v w : ℕ) → TreesWithRoom m ps nesting x c v → TreesWithRoom m qs nesting y c w
    → TreesWithRoom m (ps ++ qs) nesting (x + y) c (v + w)
placed_both m c ps qs nesting x y v w p q = record {
  trees = before p.trees q.trees;
  are_at = at_both m ps qs p.trees q.trees x y p.are_at q.are_at;
  shallow = depth_both p.trees q.trees nesting p.shallow q.shallow;
  rooms = rooms_both p.trees q.trees p.rooms q.rooms;
  words_are = output_both c p.trees q.trees ∙ omega (arith, p.words_are, q.words_are);
}

pub placed_over : (m : List (List ℕ)) (c : Bool) (place : Place) (shape : Shape) (nesting x own words : ℕ) → PointsTo m place shape → 0 < nesting
    → OwnOf m c shape own → TreesWithRoom m shape.children (nesting - 1) x c words → TreesWithRoom m (place ∷ []) nesting (shape.traversed + x) c (own + words)
placed_over m c place shape nesting x own words object deep own_is s = record {
  trees = tree shape.form s.trees none;
  are_at = subst (At m (place ∷ []) (tree shape.form s.trees none)) (omega arith) (at object s.are_at nowhere);
  shallow = one_deeper (is_null shape.form) (depth s.trees) nesting s.shallow deep;
  rooms = (subst (λ (n : ℕ). HasRoom shape.form n) (sym (count_at m shape.children s.trees x s.are_at)) own_is.room, s.rooms, tt);
  words_are = sym (own_is.counts s.trees x s.are_at s.rooms) ∙ omega (arith, s.words_are);
}

pub placed_null : (m : List (List ℕ)) (c : Bool) (place : Place) (nesting : ℕ) → PointsTo m place nothing → TreesWithRoom m (place ∷ []) nesting 0 c 0
placed_null m c place nesting object = record { trees = tree nothing.form none none; are_at = at object nowhere nowhere; shallow = omega arith; rooms = (refl, tt, tt); words_are = null_total c }
