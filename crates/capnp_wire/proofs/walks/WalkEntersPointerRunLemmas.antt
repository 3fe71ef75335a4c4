-- A walk comes to an object that has a run of pointers, and then goes over these.
use Rattle.std.proofs.Common.{◌≡◌, ◌≢◌, Bool, ℕ, ◌+◌, ◌-◌, List, [], ◌∷◌, ◌++◌, length, slice_get, Option, refl, ◌∙◌, ap, arith, length-append}
use Rattle.capnp_frame.specs.declared.error.ErrorKind.{ErrorKind}
use Rattle.capnp_layout.specs.Prelude.{places, local_struct_of, WalkError, places_in}
use Rattle.capnp_wire.specs.Prelude.{EntersObject, EntersRun, Walked, WalkedAll, WalkedTo}
use Rattle.capnp_layout.specs.declared.place.Place.{Place}
use Rattle.capnp_layout.specs.declared.pointer_slots.PointerSlots.{PointerSlots}
use Rattle.capnp_layout.specs.declared.fast_path.LocalStruct.{LocalStruct}
use Rattle.capnp_layout.specs.declared.pointer_run.PointerRun.{PointerRun}
use Rattle.capnp_wire.proofs.walks.WalkProgressLemmas.{Progress, Going, entered, progress_front, progress_over, progress_next, progress_error, walk_over, walk_fails_inside}

-- a struct that is entered has its pointers
pub struct_holds : {m : List (List ℕ)} {c : Bool} {place : Place} {nesting : ℕ} {limit left counted_then counted_now : Option ℕ} (found : LocalStruct) (children : PointerRun)
    → EntersObject m c place (local_struct_of found) nesting limit left counted_then counted_now
    → children.segment.now ≡ found.segment.now → children.first.word ≡ found.start.word + found.size.data_words → children.first.segment ≡ found.start.segment → children.count ≡ found.size.pointers
    → EntersRun m c place children nesting limit left counted_then counted_now
struct_holds found children enters same word_is segment_is count_is = record {
  object = local_struct_of found;
  enters = enters;
  children_are = rw (word_is, segment_is, count_is) refl;
  content = rw (segment_is, same) enters.there.content;
}

-- what is walked over below it, or where that stops
pub run_walked : {m : List (List ℕ)} {c : Bool} {place : Place} {children : PointerRun} {pointers : List Place} {nesting : ℕ} {limit mid after counted_then counted_mid counted_after : Option ℕ}
    → EntersRun m c place children nesting limit mid counted_then counted_mid → pointers ≡ places children.first.segment children.first.word children.count
    → WalkedAll m c pointers (nesting - 1) mid after counted_mid counted_after → Walked m c place nesting limit after counted_then counted_after
run_walked e all walked = walk_over (entered e.enters) (all ∙ e.children_are) walked

pub run_error : {m : List (List ℕ)} {c : Bool} {place : Place} {children : PointerRun} {pointers : List Place} {nesting : ℕ} {limit mid counted_then counted_mid : Option ℕ} {kind : ErrorKind}
    → EntersRun m c place children nesting limit mid counted_then counted_mid → pointers ≡ places children.first.segment children.first.word children.count
    → WalkError m pointers (nesting - 1) mid kind → WalkError m (place ∷ []) nesting limit kind
run_error e all walk_error = walk_fails_inside (entered e.enters) (all ∙ e.children_are) walk_error

-- among other pointers a walk comes to it
pub parent_met : {m : List (List ℕ)} {c : Bool} {children rest others : List Place} {place : Place} {run : PointerRun} {nesting : ℕ} {limit left after counted_then counted_now counted_after : Option ℕ}
    → rest ≡ place ∷ others → Progress m c children rest nesting limit left counted_then counted_now → EntersRun m c place run nesting left after counted_now counted_after
    → WalkedTo m c children others run nesting limit after counted_then counted_after
parent_met {place = place} {left = left} {counted_now = counted_now} is p enters = record {
  front = p.front;
  place = place;
  at_is = p.children_is ∙ ap (λ (l : List Place). p.front ++ l) is;
  left_there = left;
  words_there = counted_now;
  in_front = progress_front p;
  enters = enters;
}

-- there was a pointer to it
pub some_before : {m : List (List ℕ)} {c : Bool} {at rest : List Place} {run : PointerRun} {nesting : ℕ} {limit left counted_then counted_now : Option ℕ}
    → WalkedTo m c at rest run nesting limit left counted_then counted_now → at ≢ []
some_before {rest = rest} w none = absurd (omega (arith, ap length w.at_is, ap length none, length-append w.front (w.place ∷ rest)))

-- and goes over what is below it, or stops there
pub parent_walked : {m : List (List ℕ)} {c : Bool} {children at rest pointers : List Place} {run : PointerRun} {nesting : ℕ} {limit left mid after counted_then counted_now counted_mid counted_after : Option ℕ}
    → Progress m c children at nesting limit left counted_then counted_now → WalkedTo m c at rest run nesting left mid counted_now counted_mid
    → pointers ≡ places run.first.segment run.first.word run.count → WalkedAll m c pointers (nesting - 1) mid after counted_mid counted_after
    → Progress m c children rest nesting limit after counted_then counted_after
parent_walked p w all walked = progress_next refl (progress_over w.at_is p w.in_front) (run_walked w.enters all walked)

pub parent_fails : {m : List (List ℕ)} {c : Bool} {children at rest pointers : List Place} {run : PointerRun} {nesting : ℕ} {limit left mid counted_then counted_now counted_mid : Option ℕ} {kind : ErrorKind}
    → Progress m c children at nesting limit left counted_then counted_now → WalkedTo m c at rest run nesting left mid counted_now counted_mid
    → pointers ≡ places run.first.segment run.first.word run.count → WalkError m pointers (nesting - 1) mid kind → WalkError m children nesting limit kind
parent_fails p w all walk_error = progress_error refl (progress_over w.at_is p w.in_front) (run_error w.enters all walk_error)

pub going_below : {m : List (List ℕ)} {segment : List ℕ} {c : Bool} {whole at rest : PointerSlots} {pointers : List Place} {run : PointerRun} {nesting : ℕ}
    {limit left mid after counted_then counted_now counted_mid counted_after : Option ℕ} → Going m segment c whole at nesting limit left counted_then counted_now
    → WalkedTo m c (places_in at) (places_in rest) run nesting left mid counted_now counted_mid → rest.next.segment ≡ at.next.segment
    → pointers ≡ places run.first.segment run.first.word run.count → WalkedAll m c pointers (nesting - 1) mid after counted_mid counted_after
    → Going m segment c whole rest nesting limit after counted_then counted_after
going_below {m} going w same all walked = record {
  progress = parent_walked going.progress w all walked;
  content = λ some. ap (slice_get m) same ∙ going.content (some_before w);
  same_segment = same ∙ going.same_segment;
}
