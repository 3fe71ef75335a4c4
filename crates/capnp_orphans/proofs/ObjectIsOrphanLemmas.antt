-- An object that has adopted orphans, and is written after them, is one more orphan.
use Rattle.std.proofs.Common.{◌≡◌, ℕ, ◌+◌, ◌^◌, ◌<◌, ◌≤◌, List, [], ◌∷◌, ◌++◌, length, Some, slice_get, refl, sym, ◌∙◌, ap, subst, arith, append_assoc}
use Rattle.std.specs.Prelude.{All}
use Rattle.std.proofs.lemmas.Option.{slice_get_within}
use Rattle.capnp_layout.specs.Prelude.{Form, null, struct, pointers, Trees, none, tree, count, total_words, object_size, PointsTo, is_null, places, At, nowhere, at, pointer, own, body as body_of, placed, run, slots, HasRoom, AllHaveRoom}
use Rattle.capnp_layout.specs.declared.place.Place.{Place}
use Rattle.capnp_layout.proofs.words.WordRunPartsInSegmentLemmas.{Holds, holds_left, holds_right, holds_first}
use Rattle.capnp_layout.proofs.pointers.LayoutSlotPointersAndPlacesLemmas.{Linked, placed-run}
use Rattle.capnp_layout.proofs.layouts.LayoutReadBackLemmas.{trees_are_at, few_reach}
use Rattle.capnp_layout.proofs.layouts.LayoutSizeLemmas.{slots_before, length-slots, length-own_of, links_of, length-links}
use Rattle.capnp_layout.proofs.trees.TraversalLimitCountLemmas.{at_both}
use Rattle.capnp_orphans.specs.Orphans.{link, links, IsOrphan, AreOrphans}
use Rattle.capnp_orphans.proofs.OrphanPointerReadLemmas.{length-orphan_links, read_link}

-- null
pub null_is_orphan : (body : List ℕ) → IsOrphan body 0 null none
null_is_orphan body = record { points_to = λ first more place low link_is_at. (0 + 0 + 0, at (is_null link_is_at) nowhere nowhere) }

-- the pointers to the orphans point to their trees
pub orphans_are_at : (first : ℕ) (body more words : List ℕ) (trees : Trees) (place : ℕ) → AreOrphans body words trees → place + length words ≤ 2 ^ 29
    → Holds (first ∷ (body ++ more)) place (links words place) → (traversed : ℕ) × At ((first ∷ (body ++ more)) ∷ []) (places 0 place (length words)) trees traversed
orphans_are_at first body more [] trees place are room h = (0, subst (λ (t : Trees). At ((first ∷ (body ++ more)) ∷ []) [] t 0) (sym are) nowhere)
orphans_are_at first body more (word ∷ words) none place are room h = absurd are
orphans_are_at first body more (word ∷ words) (tree form children rest) place are room h =
    let here : slice_get (first ∷ (body ++ more)) place ≡ Some (link word place) = holds_first (first ∷ (body ++ more)) place (link word place) (links words (place + 1)) h in
    let others : Holds (first ∷ (body ++ more)) (place + 1) (links words (place + 1)) =
    holds_right (first ∷ (body ++ more)) place 1 (link word place ∷ []) (links words (place + 1)) refl h in
    let one = are.0.points_to first more place (omega arith) here in
    let rest_too = orphans_are_at first body more words rest (place + 1) are.1 (omega arith) others in
    (one.0 + rest_too.0, at_both ((first ∷ (body ++ more)) ∷ []) (record { segment = 0; word = place } ∷ []) (places 0 (place + 1) (length words)) (tree form children none) rest one.0 rest_too.0 one.1 rest_too.1)

-- the words that were appended to a segment
pub words_appended : (first : ℕ) (body object_size more : List ℕ) (start : ℕ) → start ≡ 1 + length body → Holds (first ∷ ((body ++ object_size) ++ more)) start object_size
words_appended first body object_size more start is = record {
  front = first ∷ body;
  rest = more;
  parts = ap (λ (l : List ℕ). first ∷ l) (append_assoc body object_size more);
  begins = omega (arith, is);
}

-- a struct of some words that has adopted orphans is one more orphan
pub struct_is_orphan : (body words ps : List ℕ) (children : Trees) (start : ℕ) → start ≡ 1 + length body → length words < 2 ^ 16 → length ps < 2 ^ 16 → All (λ w. w < 2 ^ 64) words
    → start + length words + length ps < 2 ^ 29 → AreOrphans body ps children
    → IsOrphan (body ++ (words ++ links ps (start + length words))) (pointer (struct words) (length ps) start) (struct words) children
struct_is_orphan body words ps children start is few_words few_pointers all room are = record {
  points_to = λ first more place low link_is_at.
      let ls : List ℕ = links ps (start + length words) in
      let segment : List ℕ = first ∷ ((body ++ (words ++ links ps (start + length words))) ++ more) in
      let long : length (links ps (start + length words)) ≡ length ps = length-orphan_links ps (start + length words) in
      let there : Holds segment start (words ++ ls) = words_appended first body (words ++ ls) more start is in
      let link_is_at' : slice_get segment place ≡ Some (link (pointer (struct words) (length ls) start) place) =
      subst (λ (n : ℕ). slice_get segment place ≡ Some (link (pointer (struct words) n start) place)) (sym long) link_is_at in
      let read = read_link segment place start (struct words) ls low (omega arith) (omega (arith, slice_get_within segment place _ link_is_at)) (few_words, subst (λ (n : ℕ). n < 2 ^ 16) (sym long) few_pointers, all) link_is_at' there in
      let own_links : Holds segment (start + length words) ls = holds_right segment start (length words) words ls refl there in
      let onward : segment ≡ first ∷ (body ++ ((words ++ ls) ++ more)) = ap (λ (l : List ℕ). first ∷ l) (append_assoc body (words ++ ls) more) in
      let children_there = orphans_are_at first body ((words ++ ls) ++ more) ps children (start + length words) are (omega arith)
      (subst (λ (l : List ℕ). Holds l (start + length words) ls) onward own_links) in
      let children_here : At (segment ∷ []) (places 0 (start + length words) (length ps)) children children_there.0 =
      subst (λ (l : List ℕ). At (l ∷ []) (places 0 (start + length words) (length ps)) children children_there.0) (sym onward) children_there.1 in
      let run_is : placed 0 start (run (length words) (length ls)) ≡ places 0 (start + length words) (length ps) =
      placed-run 0 start (start + length words) (length words) (length ls) refl ∙ ap (places 0 (start + length words)) long in
      (read.traversed + children_there.0 + 0, at read.object (subst (λ (there : List Place). At (segment ∷ []) there children children_there.0) (sym run_is) children_here) nowhere);
}

-- so is a list of pointers to orphans
pub pointers_are_orphan : (body words : List ℕ) (children : Trees) (start : ℕ) → start ≡ 1 + length body → start + length words < 2 ^ 29 → AreOrphans body words children
    → IsOrphan (body ++ links words start) (pointer pointers (length words) start) pointers children
pointers_are_orphan body words children start is room are = record {
  points_to = λ first more place low link_is_at.
      let ls : List ℕ = links words start in
      let segment : List ℕ = first ∷ ((body ++ links words start) ++ more) in
      let long : length (links words start) ≡ length words = length-orphan_links words start in
      let there : Holds segment start ls = words_appended first body ls more start is in
      let link_is_at' : slice_get segment place ≡ Some (link (pointer pointers (length ls) start) place) =
      subst (λ (n : ℕ). slice_get segment place ≡ Some (link (pointer pointers n start) place)) (sym long) link_is_at in
      let read = read_link segment place start pointers ls low (omega arith) (omega (arith, slice_get_within segment place _ link_is_at)) (omega (arith, long, room)) link_is_at' there in
      let onward : segment ≡ first ∷ (body ++ (ls ++ more)) = ap (λ (l : List ℕ). first ∷ l) (append_assoc body ls more) in
      let children_there = orphans_are_at first body (ls ++ more) words children start are (omega arith) (subst (λ (l : List ℕ). Holds l start ls) onward there) in
      let children_here : At (segment ∷ []) (places 0 start (length words)) children children_there.0 =
      subst (λ (l : List ℕ). At (l ∷ []) (places 0 start (length words)) children children_there.0) (sym onward) children_there.1 in
      let run_is : placed 0 start (run 0 (length ls)) ≡ places 0 start (length words) =
      placed-run 0 start start 0 (length ls) (omega arith) ∙ ap (places 0 start) long in
      (read.traversed + children_there.0 + 0, at read.object (subst (λ (there : List Place). At (segment ∷ []) there children children_there.0) (sym run_is) children_here) nowhere);
}

-- a tree whose body is appended is one more orphan
pub value_is_orphan : (body : List ℕ) (form : Form) (children : Trees) (start : ℕ) → start ≡ 1 + length body → AllHaveRoom (tree form children none) → start + total_words (tree form children none) < 2 ^ 29
    → IsOrphan (body ++ body_of (tree form children none)) (pointer form (count children) start) form children
value_is_orphan body form children start is rooms room = record {
  points_to = λ first more place low link_is_at.
      let segment : List ℕ = first ∷ ((body ++ body_of (tree form children none)) ++ more) in
      let there : Holds segment start (body_of (tree form children none)) = words_appended first body (body_of (tree form children none)) more start is in
      let long : length (links_of form children) ≡ count children = length-links form children rooms.0 in
      let own_long : length (own form (links_of form children)) ≡ object_size form (count children) = length-own_of form children rooms.0 in
      let front : Holds segment start (own form (links_of form children) ++ body_of children) = holds_left segment start (own form (links_of form children) ++ body_of children) (body_of none) there in
      let own_there : Holds segment start (own form (links_of form children)) = holds_left segment start (own form (links_of form children)) (body_of children) front in
      let inner_there : Holds segment (start + object_size form (count children)) (body_of children) = holds_right segment start (object_size form (count children)) (own form (links_of form children)) (body_of children) own_long front in
      let link_is_at' : slice_get segment place ≡ Some (link (pointer form (length (links_of form children)) start) place) =
      subst (λ (n : ℕ). slice_get segment place ≡ Some (link (pointer form n start) place)) (sym long) link_is_at in
      let read = read_link segment place start form (links_of form children) low (omega arith) (omega (arith, slice_get_within segment place _ link_is_at)) (subst (λ (n : ℕ). HasRoom form n) (sym long) rooms.0) link_is_at' own_there in
      let linked : Linked segment start (slots form (count children)) (links_of form children) = subst (λ (n : ℕ). Linked segment start (slots form n) (links_of form children)) long read.linked in
      let object : PointsTo (segment ∷ []) (record { segment = 0; word = place }) (record { form = form; children = placed 0 start (slots form (count children)); traversed = read.traversed }) =
      subst (λ (n : ℕ). PointsTo (segment ∷ []) (record { segment = 0; word = place }) (record { form = form; children = placed 0 start (slots form n); traversed = read.traversed })) long read.object in
      let inner = trees_are_at (segment ∷ []) 0 segment refl start (slots form (count children)) (object_size form (count children)) children (few_reach (slots form (count children)) (object_size form (count children)) children (omega (arith, room)))
      rooms.1 (length-slots form (count children) rooms.0) (slots_before form (count children) rooms.0) linked inner_there in
      (read.traversed + inner.0 + 0, at object inner.1 nowhere);
}
