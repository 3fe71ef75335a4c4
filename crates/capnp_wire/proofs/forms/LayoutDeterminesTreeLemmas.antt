-- Trees with equal layouts are equal, and trees with equal canonical forms are equal when trimmed.
use Rattle.std.proofs.Common.{◌≡◌, ℕ, ◌<◌, ◌^◌, List, [], ◌∷◌, subst}
use Rattle.capnp_layout.specs.Prelude.{Form, Trees, none, tree, total_words, trim, trim_form, trim_children, At, root, layout, canon, AllHaveRoom}
use Rattle.capnp_layout.proofs.objects.UniqueObjectLemmas.{one_tree}
use Rattle.capnp_wire.proofs.layouts.LayoutReadBackLemmas.{root_of_layout}
use Rattle.capnp_layout.proofs.trees.TrimIdempotenceAndSizeLemmas.{room_trim}

-- trees that are laid out alike are equal
pub layout_tells : (f g : Form) (h k : Trees) → AllHaveRoom (tree f h none) → total_words (tree f h none) < 2 ^ 29
    → AllHaveRoom (tree g k none) → total_words (tree g k none) < 2 ^ 29
    → layout (tree f h none) ≡ layout (tree g k none) → tree f h none ≡ tree g k none
layout_tells f g h k room small room_too small_too same =
    let a = root_of_layout f h room small in
    let b = root_of_layout g k room_too small_too in
    (one_tree (layout (tree g k none) ∷ []) (root ∷ []) (tree f h none) (tree g k none) a.0 b.0
    (subst (λ (words : List ℕ). At (words ∷ []) (root ∷ []) (tree f h none) a.0) same a.1) b.1).0

-- the root of a canonical form is the trimmed tree
pub root_of_canon : (form : Form) (children : Trees) → AllHaveRoom (tree form children none) → total_words (trim (tree form children none)) < 2 ^ 29
    → (traversed : ℕ) × At (canon (tree form children none) ∷ []) (root ∷ []) (trim (tree form children none)) traversed
root_of_canon form children room small = root_of_layout (trim_form form (trim children)) (trim_children form (trim children)) (room_trim (tree form children none) room) small

-- trees with equal canonical forms are equal, trimmed
pub canon_tells : (f g : Form) (h k : Trees) → AllHaveRoom (tree f h none) → total_words (trim (tree f h none)) < 2 ^ 29
    → AllHaveRoom (tree g k none) → total_words (trim (tree g k none)) < 2 ^ 29
    → canon (tree f h none) ≡ canon (tree g k none) → trim (tree f h none) ≡ trim (tree g k none)
canon_tells f g h k room small room_too small_too same =
    layout_tells (trim_form f (trim h)) (trim_form g (trim k)) (trim_children f (trim h)) (trim_children g (trim k))
    (room_trim (tree f h none) room) small (room_trim (tree g k none) room_too) small_too same
