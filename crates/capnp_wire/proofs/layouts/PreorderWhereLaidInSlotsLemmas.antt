-- Trees are in preorder exactly where their pointers are in the slots, and their bodies from the next free word
-- on, as in a layout.
use Rattle.std.proofs.Common.{◌≡◌, ℕ, ◌+◌, ◌-◌, ◌^◌, ◌<◌, ◌≤◌, List, [], ◌∷◌, ◌++◌, length, Some, slice_get, refl, sym, subst, arith, length-append}
use Rattle.capnp_layout.specs.Prelude.{digits, number_of, width, words_for, Form, null, struct, numbers, pointers, structs, Trees, none, tree, count, object_size, total_words, At, pointer, slots, pointers_to, own, body, HasRoom, AllHaveRoom, Reaches, AllReach, placed}
use Rattle.capnp_layout.specs.declared.place.Place.{Place}
use Rattle.capnp_wire.specs.Prelude.{Padded, IsInPreorder}
use Rattle.capnp_layout.proofs.words.WordRunPartsInSegmentLemmas.{Holds, holds_none, holds_words}
use Rattle.capnp_layout.proofs.words.DigitsToNumberAndBackLemmas.{length-digits}
use Rattle.capnp_layout.proofs.pointers.LayoutSlotPointersAndPlacesLemmas.{Linked}
use Rattle.capnp_layout.proofs.layouts.LayoutSizeLemmas.{links_of, length-links, length-own_of, length-body, length-slots, slots_before, Before, before_more}
use Rattle.capnp_wire.proofs.layouts.ObjectAtNextWordLaidOutLemmas.{Exactly, holds_join}
use Rattle.capnp_wire.proofs.layouts.LayoutPointerPlacesObjectLemmas.{at_parts, preorder_object}
use Rattle.capnp_layout.proofs.trees.TraversalLimitCountLemmas.{count_at}
use Rattle.capnp_layout.proofs.layouts.LayoutReadBackLemmas.{first_read}

-- the pointers of some trees are in slots, and the trees' bodies from a word on
pub record LaidInSlots (segment : List ℕ) (base : ℕ) (slots : List ℕ) (next : ℕ) (trees : Trees) : Type 0 where
  pub linked : Linked segment base slots (pointers_to slots next trees)
  pub are_at : Holds segment (base + next) (body trees)

pub laid_of_preorder : (segment : List ℕ) (base : ℕ) (slots : List ℕ) (next : ℕ) (trees : Trees) (traversed : ℕ) → At (segment ∷ []) (placed 0 base slots) trees traversed → AllHaveRoom trees
    → length slots ≡ count trees → Before next slots → base + next + total_words trees ≤ length segment → IsInPreorder segment (placed 0 base slots) (base + next) trees → LaidInSlots segment base slots next trees
laid_of_preorder segment base [] next none traversed is_at room long before within in_preorder = record { linked = refl; are_at = holds_none segment (base + next) (omega arith) }
laid_of_preorder segment base (slot ∷ more) next none traversed is_at room long before within in_preorder = absurd (omega arith)
laid_of_preorder segment base [] next (tree form children rest) traversed is_at room long before within in_preorder = absurd (omega arith)
laid_of_preorder segment base (slot ∷ more) next (tree form children rest) traversed is_at room long before within in_preorder =
    let parts = at_parts (segment ∷ []) (record { segment = 0; word = base + slot }) (placed 0 base more) form children rest traversed is_at in
    let many : length parts.places ≡ count children = sym (count_at (segment ∷ []) parts.places children parts.inside parts.inner) in
    let first : slot < next = before.0 in
    let own_room : HasRoom form (length parts.places) = subst (λ (n : ℕ). HasRoom form n) (sym many) room.0 in
    let there : slice_get segment (base + slot) ≡ Some (pointer form (length parts.places) (base + next - (base + slot + 1))) =
    subst (λ (n : ℕ). slice_get segment (base + slot) ≡ Some (pointer form n (base + next - (base + slot + 1)))) (sym many) in_preorder.0 in
    let reach : Reaches form (length parts.places) (base + next - (base + slot + 1)) = subst (λ (n : ℕ). Reaches form n (base + next - (base + slot + 1))) (sym many) in_preorder.1 in
    let exact : Exactly segment (base + next) form parts.places (count children) =
    subst (λ (n : ℕ). Exactly segment (base + next) form parts.places n) many
    (preorder_object segment (base + slot) (base + next) form parts.places parts.traversed (omega arith) (omega arith) own_room there reach in_preorder.2 parts.object) in
    let inner_at : At (segment ∷ []) (placed 0 (base + next) (slots form (count children))) children parts.inside = subst (λ (l : List Place). At
    (segment ∷ []) l children parts.inside) exact.children_is parts.inner in
    let inner = laid_of_preorder segment (base + next) (slots form (count children)) (object_size form (count children)) children parts.inside inner_at room.1
    (length-slots form (count children) room.0) (slots_before form (count children) room.0) (omega arith) in_preorder.3 in
    let onward : base + next + object_size form (count children) + total_words children ≡ base + (next + object_size form (count children) + total_words children) = omega arith in
    let following = laid_of_preorder segment base more (next + object_size form (count children) + total_words children) rest parts.following parts.after room.2 (omega arith)
    (before_more next (next + object_size form (count children) + total_words children) more (omega arith) before.1) (omega arith)
    (subst (λ (n : ℕ). IsInPreorder segment (placed 0 base more) n rest) onward in_preorder.4) in
    let offsets : base + next - (base + slot + 1) ≡ next - (slot + 1) = omega arith in
    let own_there : Holds segment (base + next) (own form (links_of form children)) = exact.holds (links_of form children) (length-links form children room.0) inner.linked in
    let own_long : length (own form (links_of form children)) ≡ object_size form (count children) = length-own_of form children room.0 in
    let front : Holds segment (base + next) (own form (links_of form children) ++ body children) =
    holds_join segment (base + next) (base + next + object_size form (count children)) (own form (links_of form children)) (body children) (omega arith) own_there inner.are_at in
    record {
      linked = (subst (λ (o : ℕ). slice_get segment (base + slot) ≡ Some (pointer form (count children) o)) offsets in_preorder.0, following.linked);
      are_at = holds_join segment (base + next) (base + (next + object_size form (count children) + total_words children)) (own form (links_of form children) ++ body children) (body rest)
          (omega (arith, length-append (own form (links_of form children)) (body children), length-body children room.1)) front following.are_at;
    }

padded_own : (segment : List ℕ) (start : ℕ) (form : Form) (links : List ℕ) → Holds segment start (own form links) → Padded segment start form
padded_own segment start null links h = tt
padded_own segment start (struct words) links h = tt
padded_own segment start (numbers c values) links h =
    holds_words segment start (words_for (length values) (width c)) (digits (2 ^ 64) (words_for (length values) (width c)) (number_of (2 ^ width c) values))
    (length-digits (2 ^ 64) (words_for (length values) (width c)) (number_of (2 ^ width c) values)) h
padded_own segment start pointers links h = tt
padded_own segment start (structs d p elements) links h = tt

pub preorder_of_laid : (segment : List ℕ) (base : ℕ) (slots : List ℕ) (next : ℕ) (trees : Trees) → AllReach slots next trees → AllHaveRoom trees
    → length slots ≡ count trees → Before next slots → Linked segment base slots (pointers_to slots next trees) → Holds segment (base + next) (body trees)
    → IsInPreorder segment (placed 0 base slots) (base + next) trees
preorder_of_laid segment base [] next none reach room long before linked h = tt
preorder_of_laid segment base (slot ∷ more) next none reach room long before linked h = absurd (omega arith)
preorder_of_laid segment base [] next (tree form children rest) reach room long before linked h = absurd (omega arith)
preorder_of_laid segment base (slot ∷ more) next (tree form children rest) reach room long before linked h =
    let f = first_read (segment ∷ []) 0 segment refl base slot next form children rest before.0 reach.0 room linked.0 h in
    let offsets : next - (slot + 1) ≡ base + next - (base + slot + 1) = omega arith in
    let onward : base + (next + object_size form (count children) + total_words children) ≡ base + next + object_size form (count children) + total_words children = omega arith in
    let inner = preorder_of_laid segment (base + next) (slots form (count children)) (object_size form (count children)) children reach.1 room.1 (length-slots form (count children) room.0) (slots_before form
    (count children) room.0) f.linked f.inner in
    let following = preorder_of_laid segment base more (next + object_size form (count children) + total_words children) rest reach.2 room.2 (omega arith)
    (before_more next (next + object_size form (count children) + total_words children) more (omega arith) before.1) linked.1 f.others in (
      subst (λ (o : ℕ). slice_get segment (base + slot) ≡ Some (pointer form (count children) o)) offsets linked.0,
      subst (λ (o : ℕ). Reaches form (count children) o) offsets reach.0,
      padded_own segment (base + next) form (links_of form children) f.words,
      inner,
      subst (λ (n : ℕ). IsInPreorder segment (placed 0 base more) n rest) onward following,
    )
