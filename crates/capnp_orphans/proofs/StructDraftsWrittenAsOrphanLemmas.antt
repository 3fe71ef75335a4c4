-- Lists of structs that have adopted orphans: the elements are put one after the other, and the list is one more
-- orphan.
use Rattle.std.proofs.Common.{◌≡◌, ℕ, suc, ◌+◌, ◌*◌, ◌^◌, ◌<◌, ◌≤◌, List, [], ◌∷◌, ◌++◌, length, take, drop, Some, slice_get, slice_index_or, refl, sym, ◌∙◌, ap, subst, arith, append_assoc, length-append}
use Rattle.std.specs.Prelude.{All}
use Rattle.std.proofs.lemmas.List.{append-nil, length-take, take_all, take_more}
use Rattle.std.proofs.lemmas.Option.{slice_get_within}
use Rattle.std.proofs.lemmas.List.Elements.{All-nil, All-cons}
use Rattle.std.proofs.Math.Seq.{take-append_seam, drop-append_seam}
use Rattle.capnp_layout.specs.Prelude.{words_of, structs, Trees, none, tree, before, places, pointer_places, At, nowhere, at, pointer, struct_pointer, list_pointer, woven, placed, element_runs, put}
use Rattle.capnp_layout.specs.declared.place.Place.{Place}
use Rattle.capnp_layout.proofs.words.WordRunPartsInSegmentLemmas.{Holds, holds_left, holds_right, holds_same}
use Rattle.capnp_layout.proofs.pointers.LayoutSlotPointersAndPlacesLemmas.{placed-element_runs}
use Rattle.capnp_layout.proofs.trees.TraversalLimitCountLemmas.{at_both}
use Rattle.capnp_layout.proofs.layouts.PutWordsCombinedLemmas.{put_both}
use Rattle.capnp_wire.proofs.views.WalkCountIsMeasureLemmas.{put_whole}
use Rattle.capnp_values.proofs.structs.DataWordWriteLemmas.{data_put}
use Rattle.capnp_orphans.specs.declared.draft.StructDraft.{StructDraft}
use Rattle.capnp_orphans.specs.Orphans.{link, links, IsOrphan, AreOrphans}
use Rattle.capnp_orphans.specs.Holds.{words_of_each, adopted_by, element_words, AreSized}
use Rattle.capnp_orphans.proofs.OrphanPointerReadLemmas.{length-orphan_links, read_link}
use Rattle.capnp_orphans.proofs.ObjectIsOrphanLemmas.{orphans_are_at, words_appended}

pub length-words_of_each : {T : Type 0} {D P : ℕ} (xs : List (StructDraft T D P)) → length (words_of_each xs) ≡ length xs
length-words_of_each [] = refl
length-words_of_each (x ∷ xs) = ap (λ (n : ℕ). suc n) (length-words_of_each xs)

-- where the next struct comes
more_size : (n place d p : ℕ) → place + d + p + n * (d + p) + d ≡ place + suc n * (d + p) + d
more_size n place d p = omega arith

pub elements_more : {T : Type 0} {D P : ℕ} (xs : List (StructDraft T D P)) (x : StructDraft T D P) (place : ℕ)
    → element_words (xs ++ x ∷ []) place ≡ element_words xs place ++ (x.words ++ links x.pointers (place + length xs * (D + P) + D))
elements_more {T} {D} {P} [] x place =
    append-nil (x.words ++ links x.pointers (place + D)) ∙ ap (λ (n : ℕ). x.words ++ links x.pointers n) (omega arith)
elements_more {T} {D} {P} (y ∷ xs) x place =
    let front : List ℕ = y.words ++ links y.pointers (place + D) in
    ap (λ (l : List ℕ). front ++ l) (elements_more xs x (place + D + P)) ∙ sym (append_assoc front (element_words xs (place + D + P)) _)
    ∙ ap (λ (n : ℕ). (front ++ element_words xs (place + D + P)) ++ (x.words ++ links x.pointers n)) (more_size (length xs) place D P)

pub length-element_words : {T : Type 0} {D P : ℕ} (xs : List (StructDraft T D P)) (place : ℕ) → AreSized xs → length (element_words xs place) ≡ length xs * (D + P)
length-element_words [] place sized = omega arith
length-element_words {T} {D} {P} (x ∷ xs) place sized =
    let split : suc (length xs) * (D + P) ≡ D + P + length xs * (D + P) = omega arith in
    omega (
      arith,
      length-append (x.words ++ links x.pointers (place + D)) (element_words xs (place + D + P)),
      length-append x.words (links x.pointers (place + D)),
      length-orphan_links x.pointers (place + D),
      sized.0.0,
      sized.0.1,
      length-element_words xs (place + D + P) sized.1,
    )

-- one more struct
sized_append : {T : Type 0} {D P : ℕ} (xs : List (StructDraft T D P)) (x : StructDraft T D P) → AreSized xs → length x.words ≡ D → length x.pointers ≡ P → All (λ w. w < 2 ^ 64) x.words
    → AreSized (xs ++ x ∷ [])
sized_append [] x sized words pointers small = ((words, pointers, small), tt)
sized_append (y ∷ xs) x sized words pointers small = (sized.0, sized_append xs x sized.1 words pointers small)

pub sized_more : {T : Type 0} {D P : ℕ} (xs : List (StructDraft T D P)) (i : ℕ) (x : StructDraft T D P) → i < length xs → x ≡ slice_index_or xs i x → AreSized (take i xs) → length x.words ≡ D
    → length x.pointers ≡ P → All (λ w. w < 2 ^ 64) x.words → AreSized (take (i + 1) xs)
sized_more {T} {D} {P} xs i x within is sized words pointers small =
    let whole : take (i + 1) xs ≡ take i xs ++ x ∷ [] = take_more xs i x within ∙ ap (λ (y : StructDraft T D P). take i xs ++ y ∷ []) (sym is) in
    subst (λ (l : List (StructDraft T D P)). AreSized l) (sym whole) (sized_append (take i xs) x sized words pointers small)

pub all_sized : {T : Type 0} {D P : ℕ} (xs : List (StructDraft T D P)) (i : ℕ) → length xs ≤ i → AreSized (take i xs) → AreSized xs
all_sized {T} {D} {P} xs i past sized = subst (λ (l : List (StructDraft T D P)). AreSized l) (take_all i xs past) sized

-- the next struct is put
pub element_put : {T : Type 0} {D P : ℕ} (xs : List (StructDraft T D P)) (i from k place : ℕ) (x : StructDraft T D P) (block part old : List ℕ) → i < length xs → from ≡ i * (D + P) → x ≡ slice_index_or xs i x → AreSized (take i xs)
    → k ≡ 8 * (D + P) → length part ≡ 8 * (D + P) → words_of part ≡ x.words ++ links x.pointers (place + from + D) → length x.words + length x.pointers ≡ D + P
    → from + (D + P) ≤ length old → length (words_of block) ≡ length old → words_of block ≡ put 0 (element_words (take i xs) place) old
    → words_of (take (8 * from) block ++ (part ++ drop k (drop (8 * from) block))) ≡ put 0 (element_words (take (i + 1) xs) place) old
element_put {T} {D} {P} xs i from k place x block part old within at_is x_is sized k_is long part_is size room same so_far =
    let words : List ℕ = x.words ++ links x.pointers (place + from + D) in
    let words_long : length (x.words ++ links x.pointers (place + from + D)) ≡ D + P = omega (arith, length-append x.words (links x.pointers (place + from + D)), length-orphan_links x.pointers (place + from + D), size) in
    let front_many : length (take i xs) ≡ i = omega (arith, length-take i xs, within) in
    let front_long : length (element_words (take i xs) place) ≡ from =
    length-element_words (take i xs) place sized ∙ ap (λ (n : ℕ). n * (D + P)) front_many ∙ sym at_is in
    let past : 0 + length (element_words (take i xs) place) ≡ from = omega (arith, front_long) in
    let all : element_words (take (i + 1) xs) place ≡ element_words (take i xs) place ++ words =
    ap (λ (l : List (StructDraft T D P)). element_words l place) (take_more xs i x within)
    ∙ ap (λ (y : StructDraft T D P). element_words (take i xs ++ y ∷ []) place) (sym x_is)
    ∙ elements_more (take i xs) x place
    ∙ ap (λ (n : ℕ). element_words (take i xs) place ++ (x.words ++ links x.pointers (place + n + D))) (ap (λ (n : ℕ). n * (D + P)) front_many ∙ sym at_is) in
    data_put from k words block part part_is (omega (arith, long, words_long)) (omega (arith, k_is, words_long)) (omega (arith, room, same, words_long))
    ∙ ap (λ (l : List ℕ). put from words l) so_far
    ∙ ap (λ (n : ℕ). put n words (put 0 (element_words (take i xs) place) old)) (sym past)
    ∙ put_both 0 (element_words (take i xs) place) words old (omega (arith, front_long, words_long, room))
    ∙ ap (λ (l : List ℕ). put 0 l old) (sym all)

pub all_elements : {T : Type 0} {D P : ℕ} (xs : List (StructDraft T D P)) (i place : ℕ) (block old : List ℕ) → length xs ≤ i → AreSized xs → length old ≡ length xs * (D + P)
    → words_of block ≡ put 0 (element_words (take i xs) place) old → words_of block ≡ element_words xs place
all_elements {T} {D} {P} xs i place block old past sized long is =
    is ∙ ap (λ (l : List (StructDraft T D P)). put 0 (element_words l place) old) (take_all i xs past) ∙ put_whole (element_words xs place) old (length-element_words xs place sized ∙ sym long)

-- the pointers of the structs
abbrev pub element_links : {T : Type 0} {D P : ℕ} → List (StructDraft T D P) → ℕ → List ℕ
element_links [] place = []
element_links {T} {D} {P} (x ∷ xs) place = links x.pointers (place + D) ++ element_links xs (place + D + P)

pub length-element_links : {T : Type 0} {D P : ℕ} (xs : List (StructDraft T D P)) (place : ℕ) → AreSized xs → length (element_links xs place) ≡ length xs * P
length-element_links [] place sized = omega arith
length-element_links {T} {D} {P} (x ∷ xs) place sized =
    let split : suc (length xs) * P ≡ P + length xs * P = omega arith in
    omega (arith, length-append (links x.pointers (place + D)) (element_links xs (place + D + P)), length-orphan_links x.pointers (place + D), sized.0.1, length-element_links xs (place + D + P) sized.1)

pub struct_elements_woven : {T : Type 0} {D P : ℕ} (xs : List (StructDraft T D P)) (place : ℕ) → AreSized xs → element_words xs place ≡ woven P (words_of_each xs) (element_links xs place)
struct_elements_woven [] place sized = refl
struct_elements_woven {T} {D} {P} (x ∷ xs) place sized =
    let own_links : List ℕ = links x.pointers (place + D) in
    let others : List ℕ = element_links xs (place + D + P) in
    let long : length (links x.pointers (place + D)) ≡ P = length-orphan_links x.pointers (place + D) ∙ sized.0.1 in
    let front : take P (own_links ++ others) ≡ own_links = ap (λ (n : ℕ). take n (own_links ++ others)) (sym long) ∙ take-append_seam own_links others in
    let back : drop P (own_links ++ others) ≡ others = ap (λ (n : ℕ). drop n (own_links ++ others)) (sym long) ∙ drop-append_seam own_links others in
    ap (λ (l : List ℕ). (x.words ++ own_links) ++ l) (struct_elements_woven xs (place + D + P) sized.1)
    ∙ ap (λ (l : List ℕ). (x.words ++ l) ++ woven P (words_of_each xs) others) (sym front)
    ∙ ap (λ (l : List ℕ). (x.words ++ take P (own_links ++ others)) ++ woven P (words_of_each xs) l) (sym back)

pub drafts_fit : {T : Type 0} {D P : ℕ} (xs : List (StructDraft T D P)) → AreSized xs → All (λ element. (length element ≡ D) × All (λ w. w < 2 ^ 64) element) (words_of_each xs)
drafts_fit {D = D} [] sized = All-nil (λ element. (length element ≡ D) × All (λ w. w < 2 ^ 64) element)
drafts_fit {D} (x ∷ xs) sized = All-cons (λ element. (length element ≡ D) × All (λ w. w < 2 ^ 64) element) x.words (words_of_each xs) (sized.0.0, sized.0.2) (drafts_fit xs sized.1)

-- orphans in two parts
record Split (body a b : List ℕ) (trees : Trees) : Type 0 where
  front : Trees
  rest : Trees
  whole : before front rest ≡ trees
  front_are : AreOrphans body a front
  rest_are : AreOrphans body b rest

split_orphans : (body a b : List ℕ) (trees : Trees) → AreOrphans body (a ++ b) trees → Split body a b trees
split_orphans body [] b trees are = record { front = none; rest = trees; whole = refl; front_are = refl; rest_are = are }
split_orphans body (word ∷ a) b none are = absurd are
split_orphans body (word ∷ a) b (tree form children others) are =
    let s = split_orphans body a b others are.1 in
    record { front = tree form children s.front; rest = s.rest; whole = ap (λ (t : Trees). tree form children t) s.whole; front_are = (are.0, s.front_are); rest_are = s.rest_are }

-- the trees below the structs are at their pointers
drafts_are_at : {T : Type 0} {D P : ℕ} (first : ℕ) (body more : List ℕ) (xs : List (StructDraft T D P)) (trees : Trees) (place : ℕ) → AreSized xs → AreOrphans body (adopted_by xs) trees
    → place + length xs * (D + P) ≤ 2 ^ 29 → Holds (first ∷ (body ++ more)) place (element_words xs place)
    → (traversed : ℕ) × At ((first ∷ (body ++ more)) ∷ []) (pointer_places 0 place D P (length xs)) trees traversed
drafts_are_at first body more [] trees place sized are room h = (0, subst (λ (t : Trees). At ((first ∷ (body ++ more)) ∷ []) [] t 0) (sym are) nowhere)
drafts_are_at {T} {D} {P} first body more (x ∷ xs) trees place sized are room h =
    let segment : List ℕ = first ∷ (body ++ more) in
    let split : suc (length xs) * (D + P) ≡ D + P + length xs * (D + P) = omega arith in
    let s = split_orphans body x.pointers (adopted_by xs) trees are in
    let own_links : List ℕ = links x.pointers (place + D) in
    let long : length (x.words ++ links x.pointers (place + D)) ≡ D + P = omega (arith, length-append x.words (links x.pointers (place + D)), length-orphan_links x.pointers (place + D), sized.0.0, sized.0.1) in
    let front : Holds segment place (x.words ++ own_links) = holds_left segment place (x.words ++ own_links) (element_words xs (place + D + P)) h in
    let there : Holds segment (place + D) own_links = holds_right segment place D x.words own_links sized.0.0 front in
    let onward : place + (D + P) ≡ place + D + P = omega arith in
    let others : Holds segment (place + D + P) (element_words xs (place + D + P)) =
    subst (λ (n : ℕ). Holds segment n (element_words xs (place + D + P))) onward (holds_right segment place (D + P) (x.words ++ own_links) (element_words xs (place + D + P)) long h) in
    let one = orphans_are_at first body more x.pointers s.front (place + D) s.front_are (omega (arith, sized.0.1, split, room)) there in
    let one_here : At (segment ∷ []) (places 0 (place + D) P) s.front one.0 = subst (λ (n : ℕ). At (segment ∷ []) (places 0 (place + D) n) s.front one.0) sized.0.1 one.1 in
    let two = drafts_are_at first body more xs s.rest (place + D + P) sized.1 s.rest_are (omega (arith, split, room)) others in (
      one.0 + two.0,
      subst (λ (t : Trees). At (segment ∷ []) (places 0 (place + D) P ++ pointer_places 0 (place + D + P) D P (length xs)) t (one.0 + two.0)) s.whole
          (at_both (segment ∷ []) (places 0 (place + D) P) (pointer_places 0 (place + D + P) D P (length xs)) s.front s.rest one.0 two.0 one_here two.1),
    )

-- a list of structs that have adopted orphans is one more orphan
pub structs_are_orphan : {T : Type 0} {D P : ℕ} (body : List ℕ) (xs : List (StructDraft T D P)) (children : Trees) (start : ℕ) → start ≡ 1 + length body → D < 2 ^ 16 → P < 2 ^ 16 → length xs < 2 ^ 29
    → start + 1 + length xs * (D + P) < 2 ^ 29 → AreSized xs → AreOrphans body (adopted_by xs) children
    → IsOrphan (body ++ (struct_pointer (length xs) D P ∷ element_words xs (start + 1))) (list_pointer start 7 (length xs * (D + P))) (structs D P (words_of_each xs)) children
structs_are_orphan {T} {D} {P} body xs children start is few_words few_pointers many room sized are = record {
  points_to = λ first more place low link_is_at.
      let drafted : List (List ℕ) = words_of_each xs in
      let ls : List ℕ = element_links xs (start + 1) in
      let object_size : List ℕ = struct_pointer (length xs) D P ∷ element_words xs (start + 1) in
      let segment : List ℕ = first ∷ ((body ++ (struct_pointer (length xs) D P ∷ element_words xs (start + 1))) ++ more) in
      let drafts_many : length (words_of_each xs) ≡ length xs = length-words_of_each xs in
      let long : length (element_links xs (start + 1)) ≡ length xs * P = length-element_links xs (start + 1) sized in
      let there : Holds segment start object_size = words_appended first body object_size more start is in
      let own_is : struct_pointer (length xs) D P ∷ element_words xs (start + 1) ≡ struct_pointer (length (words_of_each xs)) D P ∷ woven P (words_of_each xs) (element_links xs (start + 1)) =
      ap (λ (l : List ℕ). struct_pointer (length xs) D P ∷ l) (struct_elements_woven xs (start + 1) sized)
      ∙ ap (λ (n : ℕ). struct_pointer n D P ∷ woven P (words_of_each xs) (element_links xs (start + 1))) (sym drafts_many) in
      let link_is_at' : slice_get segment place ≡ Some (link (pointer (structs D P (words_of_each xs)) (length (element_links xs (start + 1))) start) place) =
      subst (λ (n : ℕ). slice_get segment place ≡ Some (link (list_pointer start 7 (n * (D + P))) place)) (sym drafts_many) link_is_at in
      let size_is : length (words_of_each xs) * (D + P) ≡ length xs * (D + P) = ap (λ (n : ℕ). n * (D + P)) drafts_many in
      let children_many : length (element_links xs (start + 1)) ≡ length (words_of_each xs) * P = long ∙ ap (λ (n : ℕ). n * P) (sym drafts_many) in
      let read = read_link segment place start (structs D P drafted) ls low (omega (arith, room)) (omega (arith, slice_get_within segment place _ link_is_at))
      (few_words, few_pointers, omega (arith, drafts_many, many), omega (arith, size_is, room), children_many, drafts_fit xs sized) link_is_at' (holds_same segment start object_size _ own_is there) in
      let onward : segment ≡ first ∷ (body ++ (object_size ++ more)) = ap (λ (l : List ℕ). first ∷ l) (append_assoc body object_size more) in
      let rest : Holds segment (start + 1) (element_words xs (start + 1)) = holds_right segment start 1 (struct_pointer (length xs) D P ∷ []) (element_words xs (start + 1)) refl there in
      let children_there = drafts_are_at first body (object_size ++ more) xs children (start + 1) sized are (omega (arith, room)) (subst (λ (l : List ℕ). Holds l (start + 1) (element_words xs (start + 1))) onward rest) in
      let children_here : At (segment ∷ []) (pointer_places 0 (start + 1) D P (length xs)) children children_there.0 =
      subst (λ (l : List ℕ). At (l ∷ []) (pointer_places 0 (start + 1) D P (length xs)) children children_there.0) (sym onward) children_there.1 in
      let run_is : placed 0 start (element_runs 1 D P (words_of_each xs)) ≡ pointer_places 0 (start + 1) D P (length xs) =
      placed-element_runs 0 start (start + 1) 1 D P (words_of_each xs) refl ∙ ap (λ (n : ℕ). pointer_places 0 (start + 1) D P n) drafts_many in
      (read.traversed + children_there.0 + 0, at read.object (subst (λ (there : List Place). At (segment ∷ []) there children children_there.0) (sym run_is) children_here) nowhere);
}
