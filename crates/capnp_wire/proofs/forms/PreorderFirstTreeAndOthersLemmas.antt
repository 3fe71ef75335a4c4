-- Trees are in preorder exactly where the first one has the pointer and the padding of a layout, and those below
-- it and after it are in preorder.
use Rattle.std.proofs.Common.{◌≡◌, ℕ, ◌+◌, ◌-◌, List, [], ◌∷◌, length, Some, slice_get, sym, subst, ◌^◌, ◌<◌, ◌≤◌}
use Rattle.capnp_layout.specs.Prelude.{pointer, slots, HasRoom, Reaches, placed, Form, Trees, tree, count, object_size, total_words, PointsTo, At}
use Rattle.capnp_layout.specs.declared.place.Place.{Place}
use Rattle.capnp_wire.specs.Prelude.{Padded, IsInPreorder}
use Rattle.capnp_wire.proofs.layouts.LayoutPointerPlacesObjectLemmas.{preorder_object}
use Rattle.capnp_layout.proofs.trees.TraversalLimitCountLemmas.{count_at}
use Rattle.capnp_layout.proofs.trees.ReadTreeSizesAndWordsBoundedLemmas.{object_room, one_segment}
use Rattle.std.specs.Prelude.{All, ◌↔◌}

-- one step of the walk, which goes on at the places that it read
pub preorder_step : (segment : List ℕ) (word next : ℕ) (places others : List Place) (form : Form) (children rest : Trees) (traversed inside : ℕ) → All (λ w. w < 2 ^ 64) segment
    → PointsTo (segment ∷ []) (record { segment = 0; word = word }) (record { form = form; children = places; traversed = traversed }) → At (segment ∷ []) places children inside
    → word < next → next ≤ length segment
    → IsInPreorder segment (record { segment = 0; word = word } ∷ others) next (tree form children rest)
    ↔ ((slice_get segment word ≡ Some (pointer form (count children) (next - (word + 1)))) × Reaches form (count children) (next - (word + 1)) × Padded segment next form
    × IsInPreorder segment places (next + object_size form (count children)) children × IsInPreorder segment others (next + object_size form (count children) + total_words children) rest)
preorder_step segment word next children_at others form children rest traversed inside all object inner before within =
    let many : length children_at ≡ count children = sym (count_at (segment ∷ []) children_at children inside inner) in
    let room : HasRoom form (length children_at) = object_room (segment ∷ []) (record { segment = 0; word = word }) (record { form = form; children = children_at; traversed = traversed })
    (one_segment segment all) object in
    let same : (slice_get segment word ≡ Some (pointer form (count children) (next - (word + 1)))) → Reaches form (count children) (next - (word + 1)) → Padded segment next form
    → children_at ≡ placed 0 next (slots form (count children)) =
    λ there reach padded.
    subst (λ (n : ℕ). children_at ≡ placed 0 next (slots form n)) many
    (preorder_object segment word next form children_at traversed before within room (subst (λ (n : ℕ). slice_get segment word ≡ Some (pointer form n (next - (word + 1)))) (sym many) there)
    (subst (λ (n : ℕ). Reaches form n (next - (word + 1))) (sym many) reach) padded object).children_is in (
      λ t. (t.0, t.1, t.2, subst (λ (l : List Place). IsInPreorder segment l (next + object_size form (count children)) children) (sym (same t.0 t.1 t.2)) t.3, t.4),
      λ t. (t.0, t.1, t.2, subst (λ (l : List Place). IsInPreorder segment l (next + object_size form (count children)) children) (same t.0 t.1 t.2) t.3, t.4),
    )
