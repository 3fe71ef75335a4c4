-- How far a walk over what is below an object has come.
use Rattle.std.proofs.Common.{◌≡◌, ◌≢◌, arith, length, Bool, ℕ, ◌+◌, ◌-◌, ◌<◌, Some, slice_get, List, [], ◌∷◌, ◌++◌, Option, Result, Ok, Err, OnOk, IfErr, refl, sym, ◌∙◌, ap, subst, append_assoc}
use Rattle.std.proofs.lemmas.List.{append-nil}
use Rattle.capnp_frame.specs.declared.error.Error.{Error}
use Rattle.capnp_frame.specs.declared.error.ErrorKind.{ErrorKind}
use Rattle.capnp_layout.specs.Prelude.{words_of, total_words, Shape, PointsTo, nothing, shape_of, words_in, Within, less, output_body_of, WalkError, inside, places_in, TakesSlot}
use Rattle.capnp_wire.specs.Prelude.{CountsMore, EntersObject, Walked, WalkedAll, TreesWithRoom}
use Rattle.capnp_layout.specs.declared.place.Place.{Place}
use Rattle.capnp_layout.specs.declared.pointer_slots.PointerSlots.{PointerSlots}
use Rattle.capnp_layout.specs.declared.object.Object.{Object as ReadObject}
use Rattle.capnp_layout.proofs.trees.TraversalLimitCountLemmas.{within_none, less_none, within_both, less_both}
use Rattle.capnp_wire.proofs.words.WordCountAdditionWithOverflowLemmas.{counts_none, counts_both}
use Rattle.capnp_layout.proofs.trees.TreeSizeUntrimmedAndTrimmedLemmas.{OwnOf, own_output}
use Rattle.capnp_wire.proofs.trees.JoinedTreesSizeLemmas.{placed_nowhere, placed_both, placed_over, placed_null, plain_trees_at}
use Rattle.capnp_wire.proofs.walks.WalkErrorExcludesTreesLemmas.{walk_error_more, walk_error_after}

-- How far a walk over the pointers of an object has come: which are done, and what is left of the
-- limit, and has been counted since.
pub record Progress (m : List (List ℕ)) (c : Bool) (children rest : List Place) (nesting : ℕ) (limit left words_before words_now : Option ℕ) : Type 0 where
  pub front : List Place
  pub children_is : children ≡ front ++ rest
  pub traversed : ℕ
  pub words : ℕ
  pub are_at : TreesWithRoom m front nesting traversed c words
  pub within : Within limit traversed
  pub left_is : left ≡ less limit traversed
  pub counted : CountsMore words_before words_now words

pub progress_begins : (m : List (List ℕ)) (c : Bool) (children : List Place) (nesting : ℕ) (limit words : Option ℕ) → Progress m c children children nesting limit limit words words
progress_begins m c children nesting limit words = record {
  front = [];
  children_is = refl;
  traversed = 0;
  words = 0;
  are_at = placed_nowhere m c nesting;
  within = within_none limit;
  left_is = sym (less_none limit);
  counted = counts_none words;
}

pub some_left : {place : Place} {rest others : List Place} → rest ≡ place ∷ others → rest ≢ []
some_left is none = absurd (omega (arith, ap length is, ap length none))

-- then over more of them, or over one
pub progress_over : {m : List (List ℕ)} {c : Bool} {children rest front others : List Place} {nesting : ℕ} {limit left after counted_then counted_now counted_after : Option ℕ}
    → rest ≡ front ++ others → Progress m c children rest nesting limit left counted_then counted_now → WalkedAll m c front nesting left after counted_now counted_after
    → Progress m c children others nesting limit after counted_then counted_after
progress_over {m} {c} {children} {rest} {front} {others} {nesting} {limit} {left} {after} {counted_then} {counted_now} {counted_after} is p w =
    let fits : Within (less limit p.traversed) w.traversed = subst (λ (l : Option ℕ). Within l w.traversed) p.left_is w.within in
    record {
      front = p.front ++ front;
      children_is = p.children_is ∙ ap (λ (l : List Place). p.front ++ l) is ∙ sym (append_assoc p.front front others);
      traversed = p.traversed + w.traversed;
      words = p.words + w.words;
      are_at = placed_both m c p.front front nesting p.traversed w.traversed p.words w.words p.are_at w.are_at;
      within = within_both limit p.traversed w.traversed p.within fits;
      left_is = w.left_is ∙ ap (λ (l : Option ℕ). less l w.traversed) p.left_is ∙ less_both limit p.traversed w.traversed;
      counted = counts_both counted_then counted_now counted_after p.words w.words p.counted w.counted;
    }

pub progress_next : {m : List (List ℕ)} {c : Bool} {children rest others : List Place} {place : Place} {nesting : ℕ} {limit left after counted_then counted_now counted_after : Option ℕ}
    → rest ≡ place ∷ others → Progress m c children rest nesting limit left counted_then counted_now → Walked m c place nesting left after counted_now counted_after
    → Progress m c children others nesting limit after counted_then counted_after
progress_next {m} {c} {children} {rest} {others} {place} {nesting} {limit} {left} {after} {counted_then} {counted_now} {counted_after} is p w =
    progress_over {front = place ∷ []} is p w

-- it stops among those that are left, or at the first of them
pub progress_fails_there : {m : List (List ℕ)} {c : Bool} {children rest : List Place} {nesting : ℕ} {limit left counted_then counted_now : Option ℕ} {kind : ErrorKind}
    → Progress m c children rest nesting limit left counted_then counted_now → WalkError m rest nesting left kind → WalkError m children nesting limit kind
progress_fails_there {m} {c} {children} {rest} {nesting} {limit} {left} {kind = kind} p walk_error =
    subst (λ (l : List Place). WalkError m l nesting limit kind) (sym p.children_is)
    (walk_error_after m p.front rest nesting p.traversed (total_words p.are_at.trees) limit kind (plain_trees_at m p.front nesting p.traversed c p.words p.are_at) p.within
    (subst (λ (l : Option ℕ). WalkError m rest nesting l kind) p.left_is walk_error))

pub progress_error : {m : List (List ℕ)} {c : Bool} {children rest others : List Place} {place : Place} {nesting : ℕ} {limit left counted_then counted_now : Option ℕ} {kind : ErrorKind}
    → rest ≡ place ∷ others → Progress m c children rest nesting limit left counted_then counted_now → WalkError m (place ∷ []) nesting left kind → WalkError m children nesting limit kind
progress_error {m} {others = others} {place = place} {nesting = nesting} {left = left} {kind = kind} is p walk_error =
    progress_fails_there p (subst (λ (l : List Place). WalkError m l nesting left kind) (sym is) (walk_error_more m place others nesting left kind walk_error))

-- what it is over
pub progress_front : {m : List (List ℕ)} {c : Bool} {children rest : List Place} {nesting : ℕ} {limit left counted_then counted_now : Option ℕ}
    (p : Progress m c children rest nesting limit left counted_then counted_now) → WalkedAll m c p.front nesting limit left counted_then counted_now
progress_front p = record { traversed = p.traversed; words = p.words; are_at = p.are_at; within = p.within; left_is = p.left_is; counted = p.counted }

pub progress_done : {m : List (List ℕ)} {c : Bool} {children rest : List Place} {nesting : ℕ} {limit left counted_then counted_now : Option ℕ}
    → rest ≡ [] → Progress m c children rest nesting limit left counted_then counted_now → WalkedAll m c children nesting limit left counted_then counted_now
progress_done {m} {c} {children} {rest} {nesting} {limit} {left} {counted_then} {counted_now} done p =
    let all : children ≡ p.front = p.children_is ∙ ap (λ (l : List Place). p.front ++ l) done ∙ append-nil p.front in
    subst (λ (l : List Place). WalkedAll m c l nesting limit left counted_then counted_now) (sym all) (progress_front p)

-- The walk is over some of an object's pointers in a segment, and so are those that are left.
pub record Going (m : List (List ℕ)) (segment : List ℕ) (c : Bool) (whole elements : PointerSlots) (nesting : ℕ) (limit left words_before words_now : Option ℕ) : Type 0 where
  pub progress : Progress m c (places_in whole) (places_in elements) nesting limit left words_before words_now
  pub content : places_in elements ≢ [] → slice_get m elements.next.segment ≡ Some segment
  pub same_segment : elements.next.segment ≡ whole.next.segment

pub going_begins : {m : List (List ℕ)} {segment : List ℕ} {c : Bool} {elements : PointerSlots} {nesting : ℕ} {limit words : Option ℕ} → (places_in elements ≢ [] → slice_get m elements.next.segment ≡ Some segment)
    → Going m segment c elements elements nesting limit limit words words
going_begins {m} {segment} {c} {elements} {nesting} {limit} {words} content =
    record { progress = progress_begins m c (places_in elements) nesting limit words; content = content; same_segment = refl }

pub going_there : {m : List (List ℕ)} {segment : List ℕ} {c : Bool} {whole elements others : PointerSlots} {place : Place} {nesting : ℕ} {limit left words_before words_now : Option ℕ}
    → Going m segment c whole elements nesting limit left words_before words_now → TakesSlot elements others place → place.segment ≡ elements.next.segment → slice_get m place.segment ≡ Some segment
going_there {m} going takes segment_is = ap (slice_get m) segment_is ∙ going.content (some_left takes.places_are)

pub going_on : {m : List (List ℕ)} {segment : List ℕ} {c : Bool} {whole elements others : PointerSlots} {place : Place} {nesting : ℕ} {limit left after words_before words_now words_after : Option ℕ}
    → Going m segment c whole elements nesting limit left words_before words_now → TakesSlot elements others place → others.next.segment ≡ elements.next.segment
    → Walked m c place nesting left after words_now words_after → Going m segment c whole others nesting limit after words_before words_after
going_on {m} going takes same walked = record {
  progress = progress_next takes.places_are going.progress walked;
  content = λ some. ap (slice_get m) same ∙ going.content (some_left takes.places_are);
  same_segment = same ∙ going.same_segment;
}

pub going_done : {m : List (List ℕ)} {segment : List ℕ} {c : Bool} {whole elements : PointerSlots} {nesting : ℕ} {limit left after words_before words_now words_after : Option ℕ}
    → Going m segment c whole elements nesting limit left words_before words_now → WalkedAll m c (places_in elements) nesting left after words_now words_after
    → WalkedAll m c (places_in whole) nesting limit after words_before words_after
going_done {elements = elements} going walked = progress_done refl (progress_over (sym (append-nil (places_in elements))) going.progress walked)

pub walked_null : (m : List (List ℕ)) (c : Bool) (place : Place) (nesting : ℕ) (limit words : Option ℕ) → PointsTo m place nothing → Walked m c place nesting limit limit words words
walked_null m c place nesting limit words object = record {
  traversed = 0;
  words = 0;
  are_at = placed_null m c place nesting object;
  within = within_none limit;
  left_is = sym (less_none limit);
  counted = counts_none words;
}

-- a walk has met the object at a place, but nothing below it
pub record Entered (m : List (List ℕ)) (c : Bool) (place : Place) (shape : Shape) (nesting : ℕ) (limit left words_before words_now : Option ℕ) : Type 0 where
  pub object : PointsTo m place shape
  pub deep : 0 < nesting
  pub own : ℕ
  pub own_is : OwnOf m c shape own
  pub within : Within limit shape.traversed
  pub left_is : left ≡ less limit shape.traversed
  pub counted : CountsMore words_before words_now own

pub entered : {m : List (List ℕ)} {c : Bool} {place : Place} {object : ReadObject} {nesting : ℕ} {limit left counted_then counted_now : Option ℕ}
    → EntersObject m c place object nesting limit left counted_then counted_now
    → Entered m c place (record (shape_of (words_of object.segment.now) object.start object.body) { traversed = object.traversed }) nesting limit left counted_then counted_now
entered {m} {c} {place} {object} e = record {
  object = e.there.object;
  deep = e.deep;
  own = words_in (output_body_of c (words_of object.segment.now) object.start.word object.body);
  own_is = own_output m object place c e.there;
  within = e.within;
  left_is = e.left_is;
  counted = e.counted;
}

-- and then all below it
pub walked_over : (m : List (List ℕ)) (c : Bool) (place : Place) (shape : Shape) (nesting : ℕ) (limit left after counted_then counted_now counted_after : Option ℕ)
    → Entered m c place shape nesting limit left counted_then counted_now → WalkedAll m c shape.children (nesting - 1) left after counted_now counted_after
    → Walked m c place nesting limit after counted_then counted_after
walked_over m c place shape nesting limit left after counted_then counted_now counted_after e w = record {
  traversed = shape.traversed + w.traversed;
  words = e.own + w.words;
  are_at = placed_over m c place shape nesting w.traversed e.own w.words e.object e.deep e.own_is w.are_at;
  within = within_both limit shape.traversed w.traversed e.within (subst (λ (l : Option ℕ). Within l w.traversed) e.left_is w.within);
  left_is = w.left_is ∙ ap (λ (l : Option ℕ). less l w.traversed) e.left_is ∙ less_both limit shape.traversed w.traversed;
  counted = counts_both counted_then counted_now counted_after e.own w.words e.counted w.counted;
}

-- below an object without pointers
pub walked_alone : {m : List (List ℕ)} {c : Bool} {place : Place} {shape : Shape} {nesting : ℕ} {limit left counted_then counted_now : Option ℕ}
    → Entered m c place shape nesting limit left counted_then counted_now → shape.children ≡ [] → Walked m c place nesting limit left counted_then counted_now
walked_alone {m} {c} {place} {shape} {nesting} {limit} {left} {counted_then = a} {counted_now = b} e none =
    walked_over m c place shape nesting limit left left a b b e (progress_done none (progress_begins m c shape.children (nesting - 1) left b))

-- of an object whose pointers are these
pub walk_over : {m : List (List ℕ)} {c : Bool} {place : Place} {shape : Shape} {nesting : ℕ} {limit left after counted_then counted_now counted_after : Option ℕ} {pointers : List Place}
    → Entered m c place shape nesting limit left counted_then counted_now → pointers ≡ shape.children → WalkedAll m c pointers (nesting - 1) left after counted_now counted_after
    → Walked m c place nesting limit after counted_then counted_after
walk_over {m} {c} {place} {shape} {nesting} {limit} {left} {after} {counted_then = a} {counted_now = b} {counted_after = d} e all w =
    walked_over m c place shape nesting limit left after a b d e (subst (λ (l : List Place). WalkedAll m c l (nesting - 1) left after b d) all w)

pub walk_fails_inside : {m : List (List ℕ)} {c : Bool} {place : Place} {shape : Shape} {nesting : ℕ} {limit left counted_then counted_now : Option ℕ} {pointers : List Place} {kind : ErrorKind}
    → Entered m c place shape nesting limit left counted_then counted_now → pointers ≡ shape.children → WalkError m pointers (nesting - 1) left kind → WalkError m (place ∷ []) nesting limit kind
walk_fails_inside {m = m} {shape = shape} {nesting = nesting} {left = left} {kind = kind} e all walk_error =
    inside e.object e.deep e.within (subst (λ (l : Option ℕ). WalkError m shape.children (nesting - 1) l kind) e.left_is (subst (λ (l : List Place). WalkError m l
    (nesting - 1) left kind) all walk_error))

pub walk_goes_on : {Y : Type 0} {m : List (List ℕ)} {c : Bool} {place : Place} {shape : Shape} {nesting : ℕ} {limit left counted_then counted_now : Option ℕ} (after counted_after : Option ℕ)
    (pointers : List Place) (result : Result Y Error)
    → Entered m c place shape nesting limit left counted_then counted_now → pointers ≡ shape.children
    → OnOk result (WalkedAll m c pointers (nesting - 1) left after counted_now counted_after) → OnOk result (Walked m c place nesting limit after counted_then counted_after)
walk_goes_on after d pointers (Ok y) e all w = walk_over e all w
walk_goes_on after d pointers (Err error) e all w = tt

pub walk_fails : {Y : Type 0} {m : List (List ℕ)} {c : Bool} {place : Place} {shape : Shape} {nesting : ℕ} {limit left counted_then counted_now : Option ℕ} (pointers : List Place)
    (result : Result Y Error)
    → Entered m c place shape nesting limit left counted_then counted_now → pointers ≡ shape.children
    → IfErr result (λ error. WalkError m pointers (nesting - 1) left error.kind) → IfErr result (λ error. WalkError m (place ∷ []) nesting limit error.kind)
walk_fails pointers (Ok y) e all walk_error = tt
walk_fails pointers (Err error) e all walk_error = walk_fails_inside e all walk_error
