-- The canonical form of a message whose root's tree is known is the form of that tree. A binary tree may have
-- other trees after it.
use Rattle.std.proofs.Common.{◌≡◌, ℕ, zero, suc, List, [], ◌∷◌, Option, Some, Result, Ok, Err, refl, ap, ◌∙◌}
use Rattle.std.specs.Prelude.{IfOk}
use Rattle.capnp_frame.specs.declared.error.Error.{Error}
use Rattle.capnp_layout.specs.Prelude.{At, root, canon, Form, struct, Trees, none, tree}
use Rattle.capnp_wire.specs.Prelude.{Pointer}
use Rattle.capnp_layout.proofs.objects.UniqueObjectLemmas.{one_tree}
use Rattle.capnp_message.specs.Canonical.{ReturnsForm}
use Rattle.capnp_orphan_tests.specs.Uses.{binary}

pub binary_in_front : (depth number : ℕ) (form : Form) (children rest : Trees) → tree form children none ≡ binary depth number none → tree form children rest ≡ binary depth number rest
binary_in_front zero number form children rest is = cc
binary_in_front (suc depth) number form children rest is = cc

-- the canonical form of a message whose root is known
pub canonical_tree_of : {T : Type 0} (m : List (List ℕ)) (nesting : ℕ) (limit : Option ℕ) (words : T → List ℕ) (result : Result T Error) (t : Trees) (x : ℕ)
    → (let pointer : Pointer = record { message = m; place = Some root; nesting = nesting; limit = limit } in ReturnsForm pointer words result) → At m (root ∷ []) t x → IfOk result (λ form. words form ≡ canon t)
canonical_tree_of m nesting limit words (Err error) t x is there = tt
canonical_tree_of m nesting limit words (Ok form) t x is there =
    let f = is.returned in
    f.words_are ∙ ap canon (one_tree m (root ∷ []) f.trees t f.tree_is.traversed x f.tree_is.are_at there).0
