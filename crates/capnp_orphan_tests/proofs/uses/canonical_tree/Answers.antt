-- The form is of the tree at the root.
use Rattle.std.proofs.Common.{◌≡◌, ◌∷◌, [], ℕ, subst, sym, ap}
use Rattle.capnp_layout.specs.Prelude.{none, message_of, At, root, word_numbers}
use Rattle.capnp_orphans.specs.Segments.{Segment}
use Rattle.capnp_orphan_tests.specs.Uses.{binary}
use Rattle.capnp_orphan_tests.proofs.CanonicalFormDeterminedByRootTreeLemmas.{canonical_tree_of}
use Rattle.capnp_orphan_tests.proofs.uses.canonical_tree.Goals as goal

pub returns : goal.returns
returns c =
    let o = c.in_ok-objects.ensures in
    canonical_tree_of (message_of (c.new-message.result.segments.bytes ∷ [])) _ _ (λ words. word_numbers words.items) c.canonicalize.result (binary c.args.depth c.args.number none) o.0 c.canonicalize.ensures
    (subst (λ (s : Segment). At (message_of (s.bytes ∷ [])) (root ∷ []) (binary c.args.depth c.args.number none) o.0) (sym (ap (λ r. r.segments) c.new-message.ensures)) o.1)
