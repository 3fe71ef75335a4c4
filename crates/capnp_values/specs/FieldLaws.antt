-- The trees of fields have room, and there is one for each field (src/fields/).
use Rattle.std.specs.Prelude.{◌≡◌, ℕ, ◌+◌, refl}
use Rattle.std.proofs.Common.{arith, sym, subst}
use Rattle.capnp_layout.specs.Prelude.{Trees, none}
use Rattle.capnp_values.specs.Fields.{IsValueInFront, IsSettled}

settled_at_none : IsSettled 0 none
settled_at_none = record { many = refl; rooms = tt; few = omega arith }

pub settled_none : (trees : Trees) → trees ≡ none → IsSettled 0 trees
settled_none trees is = subst (λ (t : Trees). IsSettled 0 t) (sym is) settled_at_none

pub settled_more : (size : ℕ) (trees : Trees) (has_tree has_trees : Trees → Type 0) (is : IsValueInFront has_tree has_trees trees) → IsSettled size is.rest → IsSettled (size + 1) trees
settled_more size trees has_tree has_trees is rest =
    subst (λ (t : Trees). IsSettled (size + 1) t) (sym is.whole)
    (record {
      many = omega (arith, rest.many);
      rooms = (is.part.rooms.0, is.part.rooms.1, rest.rooms);
      few = omega (arith, is.part.few, rest.few);
    })
