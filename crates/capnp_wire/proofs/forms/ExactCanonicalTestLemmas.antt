-- What a walk tests (preorder, trimmed trees, no words left over) holds exactly where the segment is the canonical
-- form of its root.
use Rattle.std.proofs.lemmas.List.{nil_from_length, append-nil}
use Rattle.std.proofs.Common.{◌≡◌, ℕ, ◌+◌, ◌-◌, ◌^◌, ◌<◌, List, [], ◌∷◌, ◌++◌, length, Some, slice_get, refl, sym, ◌∙◌, ap, subst, arith, length-append}
use Rattle.std.specs.Prelude.{All}
use Rattle.capnp_layout.specs.Prelude.{Form, Trees, none, tree, count, object_size, total_words, trim, trim_form, trim_children, At, Root, pointer, slots, body, layout, canon, AllHaveRoom, Reaches, AllReach, placed, Trimmed}
use Rattle.capnp_wire.specs.Prelude.{IsInPreorder, IsCanon, TestsAreExact}
use Rattle.capnp_layout.proofs.objects.UniqueObjectLemmas.{one_tree}
use Rattle.capnp_layout.proofs.words.WordRunPartsInSegmentLemmas.{Holds, holds_right, holds_all}
use Rattle.capnp_layout.proofs.layouts.LayoutSizeLemmas.{length-body}
use Rattle.capnp_wire.proofs.layouts.ObjectAtNextWordLaidOutLemmas.{holds_join, holds_one}
use Rattle.capnp_layout.proofs.trees.TrimIdempotenceAndSizeLemmas.{trim_trimmed, trimmed_trim, room_trim}
use Rattle.capnp_wire.proofs.layouts.LayoutReadBackLemmas.{root_of_reaching}
use Rattle.capnp_wire.proofs.layouts.PreorderWhereLaidInSlotsLemmas.{laid_of_preorder, preorder_of_laid}
use Rattle.capnp_layout.proofs.trees.ReadTreeSizesAndWordsBoundedLemmas.{read_has_room, one_segment}

holds_whole : (segment words : List ℕ) → Holds segment 0 words → length segment ≡ length words → segment ≡ words
holds_whole segment words h long =
    let front : h.front ≡ [] = nil_from_length h.front h.begins in
    let whole : length segment ≡ length (h.front ++ (words ++ h.rest)) = ap length h.parts in
    let rest : h.rest ≡ [] = nil_from_length h.rest (omega (arith, length-append h.front (words ++ h.rest), length-append words h.rest)) in
    h.parts ∙ rw (front, rest) (append-nil words)

reach_of_preorder : (segment : List ℕ) (base : ℕ) (places : List ℕ) (next : ℕ) (trees : Trees) → IsInPreorder segment (placed 0 base places) (base + next) trees → AllReach places next trees
reach_of_preorder segment base places next none in_preorder = tt
reach_of_preorder segment base [] next (tree form children rest) in_preorder = tt
reach_of_preorder segment base (slot ∷ more) next (tree form children rest) in_preorder =
    let offsets : base + next - (base + slot + 1) ≡ next - (slot + 1) = omega arith in
    let onward : base + next + object_size form (count children) + total_words children ≡ base + (next + object_size form (count children) + total_words children) = omega arith in (
      subst (λ (o : ℕ). Reaches form (count children) o) offsets in_preorder.1,
      reach_of_preorder segment (base + next) (slots form (count children)) (object_size form (count children)) children in_preorder.3,
      reach_of_preorder segment base more (next + object_size form (count children) + total_words children) rest (subst (λ (n : ℕ). IsInPreorder segment (placed 0 base more) n rest) onward in_preorder.4),
    )

trim_same : (form : Form) (children : Trees) → trim (tree form children none) ≡ tree form children none → canon (tree form children none) ≡ layout (tree form children none)
trim_same form children same =
    let f : trim_form form (trim children) ≡ form = cc in
    let h : trim_children form (trim children) ≡ children = cc in
    rw (f, h) refl

canon_of_preorder : (segment : List ℕ) (form : Form) (children : Trees) (traversed : ℕ) → All (λ w. w < 2 ^ 64) segment → Root (segment ∷ []) form children traversed
    → IsInPreorder segment (record { segment = 0; word = 0 } ∷ []) 1 (tree form children none) → Trimmed (tree form children none) → length segment ≡ 1 + total_words (tree form children none) → IsCanon segment form children
canon_of_preorder segment form children traversed all root in_preorder trimmed long =
    let room : AllHaveRoom (tree form children none) = read_has_room (segment ∷ []) (record { segment = 0; word = 0 } ∷ []) (tree form children none) traversed (one_segment segment all) root in
    let laid = laid_of_preorder segment 0 (0 ∷ []) 1 (tree form children none) traversed root room refl (omega arith, tt) (omega arith) in_preorder in
    let first : Holds segment 0 (pointer form (count children) 0 ∷ []) = holds_one segment 0 (pointer form (count children) 0) laid.linked.0 in
    let there : Holds segment 0 (layout (tree form children none)) = holds_join segment 0 1 (pointer form (count children) 0 ∷ []) (body (tree form children none)) refl first laid.are_at in
    let is : segment ≡ layout (tree form children none) = holds_whole segment (layout (tree form children none)) there (omega (arith, length-body (tree form children none) room)) in
    let same : trim (tree form children none) ≡ tree form children none = trim_trimmed (tree form children none) trimmed in
    (is ∙ sym (trim_same form children same), subst (λ (t : Trees). AllReach (0 ∷ []) 1 t) (sym same) (reach_of_preorder segment 0 (0 ∷ []) 1 (tree form children none) in_preorder))

preorder_of_canon : (segment : List ℕ) (form : Form) (children : Trees) (traversed : ℕ) → All (λ w. w < 2 ^ 64) segment → Root (segment ∷ []) form children traversed → IsCanon segment form children
    → IsInPreorder segment (record { segment = 0; word = 0 } ∷ []) 1 (tree form children none) × Trimmed (tree form children none) × (length segment ≡ 1 + total_words (tree form children none))
preorder_of_canon segment form children traversed all root canonical =
    let room : AllHaveRoom (tree form children none) = read_has_room (segment ∷ []) (record { segment = 0; word = 0 } ∷ []) (tree form children none) traversed (one_segment segment all) root in
    let back = root_of_reaching (trim_form form (trim children)) (trim_children form (trim children)) (room_trim (tree form children none) room) canonical.1 in
    let copied : At (segment ∷ []) (record { segment = 0; word = 0 } ∷ []) (trim (tree form children none)) back.0 =
    subst (λ (words : List ℕ). At (words ∷ []) (record { segment = 0; word = 0 } ∷ []) (trim (tree form children none)) back.0) (sym canonical.0) back.1 in
    let both = one_tree (segment ∷ []) (record { segment = 0; word = 0 } ∷ []) (trim (tree form children none)) (tree form children none) back.0 traversed copied root in
    let same : trim (tree form children none) ≡ tree form children none = both.0 in
    let is : segment ≡ layout (tree form children none) = canonical.0 ∙ trim_same form children same in
    let reach : AllReach (0 ∷ []) 1 (tree form children none) = subst (λ (t : Trees). AllReach (0 ∷ []) 1 t) same canonical.1 in
    let there : Holds (layout (tree form children none)) 1 (body (tree form children none)) =
    holds_right (layout (tree form children none)) 0 1 (pointer form (count children) 0 ∷ []) (body (tree form children none)) refl (holds_all (layout (tree form children none))) in
    let are_at : Holds segment 1 (body (tree form children none)) = subst (λ (words : List ℕ). Holds words 1 (body (tree form children none))) (sym is) there in
    let word : slice_get segment 0 ≡ Some (pointer form (count children) 0) = rw is refl in
    let long : length segment ≡ length (layout (tree form children none)) = ap length is in (
      preorder_of_laid segment 0 (0 ∷ []) 1 (tree form children none) reach room refl (omega arith, tt) (word, refl) are_at,
      subst (λ (t : Trees). Trimmed t) same (trimmed_trim (tree form children none) room),
      omega (arith, length-body (tree form children none) room),
    )

pub tests_are_exact : TestsAreExact
tests_are_exact segment form children traversed all root = (
  λ t. (segment, refl, form, children, traversed, root, canon_of_preorder segment form children traversed all root t.0 t.1 t.2),
  λ c.
      let same_words : segment ≡ c.0 = cc in
      let both = one_tree (segment ∷ []) (record { segment = 0; word = 0 } ∷ []) (tree c.2 c.3 none) (tree form children none) c.4 traversed c.5 root in
      let f : c.2 ≡ form = cc in
      let h : c.3 ≡ children = cc in
      let there : IsCanon segment c.2 c.3 = subst (λ (words : List ℕ). IsCanon words c.2 c.3) (sym same_words) c.6 in
      preorder_of_canon segment form children traversed all root (subst (λ (t : Trees). IsCanon segment form t) h (subst (λ (t : Form). IsCanon segment t c.3) f there)),
)
