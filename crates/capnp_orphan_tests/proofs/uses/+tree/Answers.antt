-- The trees of the nodes.
use Rattle.std.proofs.Common.{◌≡◌, ◌∷◌, [], ℕ, suc, ◌-◌, List, refl, sym, ap, ◌∙◌, subst, arith}
use Rattle.capnp_layout.specs.Prelude.{struct, null, Trees, none, tree}
use Rattle.capnp_orphans.specs.Orphans.{IsOrphan}
use Rattle.capnp_orphans.specs.Segments.{body_of}
use Rattle.capnp_orphans.specs.OrphanLaws.{struct_value, keeps_on}
use Rattle.capnp_orphan_tests.specs.Uses.{IsBinary, binary, node_words}
use Rattle.capnp_orphan_tests.proofs.CanonicalFormDeterminedByRootTreeLemmas.{binary_in_front}
use Rattle.capnp_orphan_tests.proofs.uses.+tree.Goals as goal

pub returns-then-depth-eq0 : goal.returns-then-depth-eq0
returns-then-depth-eq0 t c =
    let old : List ℕ = body_of c.args.objects.now in
    let n : ℕ = c.args.number in
    let one = subst (λ (w : ℕ). IsOrphan old w null none) (sym c.null.ensures) (c.null_is_an_orphan.ensures old) in
    let two = subst (λ (w : ℕ). IsOrphan old w null none) (sym c.null-then-depth-eq0.ensures) (c.null_is_an_orphan.ensures old) in
    let whole : IsBinary c.args.depth n (tree (struct (node_words n)) (tree null none (tree null none none)) none) = ap (λ (d : ℕ). binary d n none) (sym c.if-depth-eq0.true) in
    record {
      keeps = c.node.ensures.keeps;
      orphan = struct_value old (body_of c.node.new.objects) (node_words n) (c.null.result.word ∷ c.null-then-depth-eq0.result.word ∷ []) (tree null none (tree null none none)) (IsBinary c.args.depth n) _ c.node.result (one, (two, refl)) whole c.node.ensures.orphan;
    }

pub returns : goal.returns
returns t c =
    let n : ℕ = c.args.number in
    let d : ℕ = c.args.depth - 1 in
    let deeper : suc (c.args.depth - 1) ≡ c.args.depth = omega (arith, c.if-depth-eq0.false) in
    let left = c.in_ok-left.ensures.orphan in
    let right = c.in_ok-right.ensures.orphan in
    let left_stays = c.in_ok-right.ensures.keeps c.in_ok-left.left.word left.0 left.1 left.3 in
    let children : Trees = tree left.0 left.1 (tree right.0 right.1 none) in
    let children_is : tree left.0 left.1 (tree right.0 right.1 none) ≡ binary d n (binary d n none) =
    ap (λ (rest : Trees). tree left.0 left.1 rest) right.2 ∙ binary_in_front d n left.0 left.1 (binary d n none) left.2 in
    let whole : IsBinary c.args.depth n (tree (struct (node_words n)) children none) =
    ap (λ (inner : Trees). tree (struct (node_words n)) inner none) children_is ∙ ap (λ (e : ℕ). binary e n none) deeper in
    let two = keeps_on c.args.objects.now c.tree.new.objects c.tree-2.new.objects c.in_ok-left.ensures.keeps c.in_ok-right.ensures.keeps in
    record {
      keeps = keeps_on c.args.objects.now c.tree-2.new.objects c.node-2.new.objects two c.node-2.ensures.keeps;
      orphan = struct_value (body_of c.tree-2.new.objects) (body_of c.node-2.new.objects) (node_words n) (c.in_ok-left.left.word ∷ c.in_ok-right.right.word ∷ []) children (IsBinary c.args.depth n) _ c.node-2.result (left_stays, (right.3, refl)) whole c.node-2.ensures.orphan;
    }
