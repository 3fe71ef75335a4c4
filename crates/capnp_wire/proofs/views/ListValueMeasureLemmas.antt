-- Lists of structs and of pointers, as values: a list is one tree, and its measure is its own words with the words
-- of the trees below it, or an error.
use Rattle.std.proofs.Common.{◌≡◌, ◌≢◌, ℕ, zero, suc, ◌+◌, ◌-◌, ◌*◌, ◌<◌, ◌≤◌, ◌^◌, Bool, true, false, if◌then◌else◌, List, length, Option, Some, None, slice_get, Result, Ok, Err, MatchResult, []}
use Rattle.std.proofs.Common.{inl, inr, refl, sym, ◌∙◌, ap, subst, arith}
use Rattle.std.specs.Prelude.{All}
use Rattle.capnp_frame.specs.declared.error.Error.{Error}
use Rattle.capnp_frame.specs.declared.error.ErrorKind.TheVariants.{InvalidSegmentId}
use Rattle.capnp_layout.specs.Prelude.{Form, pointers, Trees, none, tree, count, total_words, places, pointer_places, elements_from, At, WalkError, no_word, no_segment, at_pointer, output, HasRoom, AllHaveRoom, least_size, kept_places, too_large}
use Rattle.capnp_wire.specs.Prelude.{WalkedAll, HasWords, WordsError, HasPointersSegment, PointerList, IsListTree, WalkErrorInList, structs_along}
use Rattle.capnp_layout.specs.declared.place.Place.{Place}
use Rattle.capnp_layout.specs.declared.pointer.Elements.{Elements}
use Rattle.capnp_layout.specs.declared.pointer.StructSize.{StructSize}
use Rattle.capnp_layout.proofs.objects.UniqueObjectLemmas.{one_tree}
use Rattle.capnp_layout.proofs.trees.ReadTreeSizesAndWordsBoundedLemmas.{length-elements_from, length-pointer_places, elements_below}
use Rattle.capnp_layout.proofs.trees.TraversalLimitCountLemmas.{count_at}
use Rattle.capnp_layout.proofs.trees.KeptTreesPlacedNoDeeperLemmas.{long_places}
use Rattle.capnp_layout.proofs.trees.TrimIdempotenceAndSizeLemmas.{count-trim, room_trim}
use Rattle.capnp_layout.proofs.trees.TreeSizeUntrimmedAndTrimmedLemmas.{structs_total}
use Rattle.capnp_wire.proofs.walks.WalkErrorExcludesTreesLemmas.{walk_error_has_no_trees, one_walk_error}
use Rattle.capnp_wire.proofs.walks.WalkProgressLemmas.{progress_begins, progress_done}
use Rattle.capnp_layout.proofs.pointers.KeptPointerPlacesBySectionLemmas.{kept_nothing}
use Rattle.capnp_wire.proofs.views.UniqueValueTreeAndMeasureLemmas.{IsOne}

-- a list is one tree
pub one_of_list : (form : Form) (list : PointerList) → IsOne (IsListTree form list) (WalkErrorInList list)
one_of_list form list = record {
  same_tree = λ a b x y.
      x.whole ∙ ap (λ (t : Trees). tree form t none) (one_tree list.message list.children x.children y.children x.traversed y.traversed x.are_at y.are_at).0 ∙ sym y.whole;
  same_error = one_walk_error list.message list.children list.nesting list.limit;
  apart = λ kind trees walk_error t. walk_error_has_no_trees list.message list.children list.nesting t.traversed list.limit kind t.children walk_error t.are_at t.shallow t.within;
}

-- its own words, with the words of the trees below it, and the room that its fields have
pub record OwnWords (form : Form) (m : List (List ℕ)) (at : List Place) (c : Bool) (own : ℕ) : Type 0 where
  pub totals : (children : Trees) (inside : ℕ) → At m at children inside → AllHaveRoom children → own + total_words (output c children) ≡ total_words (output c (tree form children none))
  pub room : (children : Trees) (inside : ℕ) → At m at children inside → HasRoom form (count children)

-- what is measured of it
pub list_measured : (form : Form) (m : List (List ℕ)) (at : List Place) (nesting : ℕ) (limit left : Option ℕ) (c : Bool) (counted_then counted_now : Option ℕ) (own : ℕ) → OwnWords form m at c own
    → (w : WalkedAll m c at nesting limit left counted_then counted_now) → (total : ℕ) → total ≡ own + w.words → (r : Result ℕ Error)
    → MatchResult r (λ number. (number ≡ total) × (number < 2 ^ 29)) (λ error. (2 ^ 29 ≤ total) × (error.kind ≡ too_large c total))
    → let list : PointerList = record { message = m; children = at; nesting = nesting; limit = limit } in
    MatchResult r (λ number. HasWords (IsListTree form list) c number) (λ error. WordsError (IsListTree form list) (WalkErrorInList list) c error.kind)
list_measured form m at nesting limit left c counted_then counted_now own o w total total_is (Ok number) returned = record {
  trees = tree form w.are_at.trees none;
  tree_is = record { children = w.are_at.trees; traversed = w.traversed; are_at = w.are_at.are_at; shallow = w.are_at.shallow; within = w.within; whole = refl };
  rooms = (o.room w.are_at.trees w.traversed w.are_at.are_at, w.are_at.rooms, tt);
  words_are = returned.0 ∙ total_is ∙ ap (λ (k : ℕ). own + k) (sym w.are_at.words_are) ∙ o.totals w.are_at.trees w.traversed w.are_at.are_at w.are_at.rooms;
  few = returned.1;
}
list_measured form m at nesting limit left c counted_then counted_now own o w total total_is (Err error) returned =
    let whole : total ≡ total_words (output c (tree form w.are_at.trees none)) =
    total_is ∙ ap (λ (k : ℕ). own + k) (sym w.are_at.words_are) ∙ o.totals w.are_at.trees w.traversed w.are_at.are_at w.are_at.rooms in
    inr (
      tree form w.are_at.trees none,
      record { children = w.are_at.trees; traversed = w.traversed; are_at = w.are_at.are_at; shallow = w.are_at.shallow; within = w.within; whole = refl },
      subst (λ (k : ℕ). 2 ^ 29 ≤ k) whole returned.0,
      returned.1 ∙ ap (too_large c) whole,
    )

-- a list of pointers
pointers_total : (c : Bool) (n : ℕ) (children : Trees) → count children ≡ n → n + total_words (output c children) ≡ total_words (output c (tree pointers children none))
pointers_total true n children many = omega (arith, count-trim children)
pointers_total false n children many = omega (arith, many)

pub own_pointers : (m : List (List ℕ)) (first : Place) (n : ℕ) (c : Bool) → n < 2 ^ 29 → OwnWords pointers m (places first.segment first.word n) c n
own_pointers m first n c few =
    let many : (children : Trees) (inside : ℕ) → At m (places first.segment first.word n) children inside → count children ≡ n =
    λ children inside are_at. count_at m (places first.segment first.word n) children inside are_at ∙ long_places first.segment first.word n in
    record {
      totals = λ children inside are_at rooms. pointers_total c n children (many children inside are_at);
      room = λ children inside are_at. subst (λ (k : ℕ). k < 2 ^ 29) (sym (many children inside are_at)) few;
    }

-- a walk over no pointers
pub none_walked : (m : List (List ℕ)) (first : Place) (n : ℕ) (c : Bool) (nesting : ℕ) (limit counted : Option ℕ) → n ≡ 0
    → WalkedAll m c (places first.segment first.word n) nesting limit limit counted counted
none_walked m first n c nesting limit counted is =
    subst (λ (k : ℕ). WalkedAll m c (places first.segment first.word k) nesting limit limit counted counted) (sym is) (progress_done refl (progress_begins m c [] nesting limit counted))

-- it stops at the first of them where there is no segment
pub no_segment_error : (m : List (List ℕ)) (first : Place) (n nesting : ℕ) (limit : Option ℕ) → 0 < n → slice_get m first.segment ≡ None
    → WalkError m (places first.segment first.word n) nesting limit (InvalidSegmentId first.segment)
no_segment_error m first zero nesting limit some missing = absurd (omega arith)
no_segment_error m first (suc n) nesting limit some missing = at_pointer (no_word (no_segment missing))

-- A list of structs, untrimmed and as it is written: in canonical form without the trailing words
-- that no element needs.
abbrev pub kept_size : Bool → List ℕ → Place → Elements → StructSize
kept_size c words first elements = if c then least_size words first.word elements.size elements.count else elements.size

elements_total : (m : List (List ℕ)) (words : List ℕ) (first : Place) (elements : Elements) (c : Bool) (children : Trees) (inside : ℕ) → HasPointersSegment m words first elements.size
    → At m (pointer_places first.segment first.word elements.size.data_words elements.size.pointers elements.count) children inside → AllHaveRoom children
    → 1 + elements.count * ((kept_size c words first elements).data_words + (kept_size c words first elements).pointers) + total_words (output c children)
    ≡ total_words (output c (tree (structs_along words first elements) children none))
elements_total m words first elements true children inside content are_at rooms =
    structs_total m words first.segment first.word elements.size.data_words elements.size.pointers elements.count children inside content are_at (room_trim children rooms)
elements_total m words first elements false children inside content are_at rooms =
    omega (arith, ap (λ (k : ℕ). 1 + k * (elements.size.data_words + elements.size.pointers)) (length-elements_from words first.word elements.size.data_words elements.size.pointers elements.count))

pub own_structs : (m : List (List ℕ)) (words : List ℕ) (first : Place) (elements : Elements) (c : Bool) → HasPointersSegment m words first elements.size
    → first.word + elements.count * (elements.size.data_words + elements.size.pointers) ≤ length words → All (λ w. w < 2 ^ 64) words
    → elements.size.data_words < 2 ^ 16 → elements.size.pointers < 2 ^ 16 → elements.count < 2 ^ 30 → elements.count * (elements.size.data_words + elements.size.pointers) < 2 ^ 29
    → OwnWords (structs_along words first elements) m (pointer_places first.segment first.word elements.size.data_words elements.size.pointers elements.count) c
    (1 + elements.count * ((kept_size c words first elements).data_words + (kept_size c words first elements).pointers))
own_structs m words first elements c content room all few_data few_pointers few few_words =
    let d : ℕ = elements.size.data_words in
    let p : ℕ = elements.size.pointers in
    let n : ℕ = elements.count in
    let long : length (elements_from words first.word d p n) ≡ n = length-elements_from words first.word d p n in
    record {
      totals = λ children inside are_at rooms. elements_total m words first elements c children inside content are_at rooms;
      room = λ children inside are_at. (
        few_data,
        few_pointers,
        subst (λ (k : ℕ). k < 2 ^ 30) (sym long) few,
        subst (λ (k : ℕ). k * (d + p) < 2 ^ 29) (sym long) few_words,
        count_at m (pointer_places first.segment first.word d p n) children inside are_at ∙ length-pointer_places first.segment first.word d p n ∙ ap (λ (k : ℕ). k * p) (sym long),
        elements_below words first.word d p n room all,
      );
    }

-- structs that have pointers to keep are in a segment of the message
pub elements_children : (m : List (List ℕ)) (words : List ℕ) (first : Place) (size : StructSize) (q n : ℕ) → HasPointersSegment m words first size → q ≤ size.pointers
    → kept_places first.segment first.word size.data_words size.pointers q n ≢ [] → slice_get m first.segment ≡ Some words
elements_children m words first size zero n holds le some = absurd (some (kept_nothing {B = ℕ} first.segment first.word size.data_words size.pointers 0 n (inl refl)))
elements_children m words first size (suc q) n holds le some = holds (omega arith)
