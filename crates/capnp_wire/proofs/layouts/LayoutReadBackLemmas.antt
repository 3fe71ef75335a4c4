-- A layout is read back as its tree.
use Rattle.std.proofs.Common.{ℕ, ◌+◌, ◌^◌, ◌<◌, List, [], ◌∷◌, refl, arith}
use Rattle.capnp_layout.specs.Prelude.{Form, Trees, none, tree, count, At, total_words, pointer, body, layout, AllHaveRoom, AllReach, root}
use Rattle.capnp_layout.proofs.words.WordRunPartsInSegmentLemmas.{Holds, holds_right, holds_all}
use Rattle.capnp_layout.proofs.layouts.LayoutReadBackLemmas.{few_reach, trees_are_at}

-- the root of the one segment in which a tree is laid out is that tree, where every field has room
pub root_of_reaching : (form : Form) (children : Trees) → AllHaveRoom (tree form children none) → AllReach (0 ∷ []) 1 (tree form children none)
    → (traversed : ℕ) × At (layout (tree form children none) ∷ []) (root ∷ []) (tree form children none) traversed
root_of_reaching form children room reach =
    let words : List ℕ = layout (tree form children none) in
    let all : Holds words 0 words = holds_all words in
    let whole : Holds words (0 + 1) (body (tree form children none)) = holds_right words 0 1 (pointer form (count children) 0 ∷ []) (body (tree form children none)) refl all in
    trees_are_at (words ∷ []) 0 words refl 0 (0 ∷ []) 1 (tree form children none) reach room refl (omega arith, tt) (refl, refl) whole

-- in 2 ^ 29 words, the pointer word counted, every offset has room
pub small_reaches : (form : Form) (children : Trees) → total_words (tree form children none) < 2 ^ 29 → AllReach (0 ∷ []) 1 (tree form children none)
small_reaches form children small = few_reach (0 ∷ []) 1 (tree form children none) (omega arith)

-- so the root of a small layout is its tree
pub root_of_layout : (form : Form) (children : Trees) → AllHaveRoom (tree form children none) → total_words (tree form children none) < 2 ^ 29
    → (traversed : ℕ) × At (layout (tree form children none) ∷ []) (root ∷ []) (tree form children none) traversed
root_of_layout form children room small = root_of_reaching form children room (small_reaches form children small)
