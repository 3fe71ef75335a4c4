-- Where a new block is placed: in the first segment if it has room there, else in another one. Where no room is
-- found, the root stays cleared.
use Rattle.std.proofs.Common.{◌≡◌, ◌⊎◌, inl, inr, ℕ, ◌+◌, ◌*◌, ◌<◌, ◌≤◌, List, [], ◌∷◌, length, max, None, MatchOption, Result, Ok, Err, IfErr, OnOk, OnErr, ap, sym, subst, ◌∙◌, arith, length-append}
use Rattle.std.specs.Prelude.{⊤}
use Rattle.std.proofs.lemmas.Bool.{cases_lt}
use Rattle.capnp_frame.specs.declared.error.Error.{Error}
use Rattle.capnp_frame.specs.declared.error.ErrorKind.{ErrorKind}
use Rattle.capnp_build.specs.Prelude.{Space, space_at, free_words_of, KeepsOthers, Built, size_in_words, HasNullRoot, KeepsOutside, state_of, IsAdded, IsAtEnd, IsPlaced, IsZeroAt, IsCleared, FindsNoRoom, FoundNoRoom, KeepsRooms, HasRootAlone}
use Rattle.capnp_build.specs.declared.allocator.Allocator.{Ghosts}
use Rattle.capnp_frame.specs.Prelude.{IsPreorder}
use Rattle.capnp_build.proofs.states.SegmentSizesAfterChangeLemmas.{size_added, past_all, added_there}

-- a place in a segment that is new
at_new_end : {A : Type 0} (old mid : List Space) (new : Built A) (segment words : ℕ) → segment ≡ length old → IsAdded old mid → IsAtEnd mid new.location segment 1 words
    → IsAtEnd old new.location segment 1 words
at_new_end old mid new segment words e more at_end =
    let here : (space_at mid segment).used ≡ (space_at old segment).used =
    ap (λ (i : ℕ). (space_at mid i).used) e ∙ ap (λ (l : List Space). (space_at l (length old)).used) more.1 ∙ ap (λ (s : Space). s.used) (added_there old more.0) ∙ more.2
    ∙ sym (past_all old) ∙ ap (λ (i : ℕ). (space_at old i).used) (sym e) in
    record { place = at_end.place; place_is = at_end.place_is; segment_is = at_end.segment_is; words_are = at_end.words_are; start_is = at_end.start_is ∙ ap (λ (l : List ℕ). length l + 8 * 1) here }

pub placed_far : {A : Type 0} (old mid : List Space) (new : Built A) (segment words : ℕ) → free_words_of (space_at old 0) < words → 0 < segment
    → ((i : ℕ) → 0 < i → i < segment → free_words_of (space_at old i) < words + 1) → (segment < length old → mid ≡ old) → (length old ≤ segment → (segment ≡ length old) × IsAdded old mid)
    → length new.spaces ≡ length mid → IsAtEnd mid new.location segment 1 words → size_in_words new.spaces ≡ size_in_words mid + words + 1 → IsPlaced old new words
placed_far old mid new segment words full following first older newer count at_end size = elim (cases_lt segment (length old)) [
  | inl among ↦ (let same = older among in record {
    local = λ room. absurd (omega (arith, room, full));
    far = λ _. (
      segment,
      following,
      subst (λ (l : List Space). IsAtEnd l new.location segment 1 words) same at_end,
      first,
      omega (arith, among),
      count ∙ ap length same ∙ omega (arith, among),
      size ∙ ap (λ (l : List Space). size_in_words l + words + 1) same,
    );
  })
  | inr past ↦ (let more = newer past in let long : length mid ≡ length old + 1 = ap length more.1.1 ∙ omega (arith, length-append old (more.1.0 ∷ [])) in record {
    local = λ room. absurd (omega (arith, room, full));
    far = λ _. (
      segment,
      following,
      at_new_end old mid new segment words more.0 more.1 at_end,
      first,
      omega (arith, more.0),
      count ∙ long ∙ omega (arith, more.0),
      size ∙ ap (λ (k : ℕ). k + words + 1) (ap size_in_words more.1.1 ∙ size_added old more.1.0 more.1.2),
    );
  })
]

pub on_ok : {A E : Type 0} (r : Result A E) (P Q : Type 0) → (P → Q) → OnOk r P → OnOk r Q
on_ok (Ok a) P Q step p = step p
on_ok (Err e) P Q step p = tt

-- what fails after the root is cleared leaves it cleared
pub still_cleared : {A S : Type 0} (alloc : Ghosts A S) (old cleared last : Built A) (r : Result (Unit {0}) Error) → IsPreorder alloc.same → IsCleared alloc old cleared → OnErr r (last.location ≡ None)
    → OnErr r (last.spaces ≡ cleared.spaces) → alloc.same cleared.allocator last.allocator → KeepsOthers alloc.out (state_of cleared) (state_of last) → OnErr r (IsCleared alloc old last)
still_cleared alloc old cleared last (Ok done) keeps c null kept alike others = tt
still_cleared alloc old cleared last (Err error) keeps c null kept alike others = record {
  null = null;
  null_word = subst HasNullRoot (sym kept) c.null_word;
  zero = subst (λ (l : List Space). MatchOption old.location ⊤ (IsZeroAt l)) (sym kept) c.zero;
  size = subst (λ (l : List Space). size_in_words l ≤ max 1 (size_in_words old.spaces)) (sym kept) c.size;
  rooms = subst (λ (l : List Space). KeepsRooms old.spaces l) (sym kept) c.rooms;
  outside = subst (λ (l : List Space). KeepsOutside old.location old.spaces l) (sym kept) c.outside;
  new_object = λ none. subst (λ (l : List Space). (l ≡ []) ⊎ HasRootAlone l) (sym kept) (c.new_object none);
  same_allocator = keeps.transitive old.allocator cleared.allocator last.allocator c.same_allocator alike;
  others = λ rest is. others rest (c.others rest is);
}

-- a block in the first segment
pub placed_local : {A : Type 0} (old : List Space) (new : Built A) (words : ℕ) → words ≤ free_words_of (space_at old 0) → IsAtEnd old new.location 0 0 words → length new.spaces ≡ length old
    → size_in_words new.spaces ≡ size_in_words old + words → IsPlaced old new words
placed_local old new words room at_end count size = record { local = λ _. (at_end, count, size); far = λ full. absurd (omega (arith, room, full)) }

-- what finds no room found none once the root was cleared
pub found_no_room : {A S : Type 0} (alloc : Ghosts A S) (measured : ℕ → Type 0) (R E : ErrorKind → Type 0) (old new : Built A) (r : Result (Unit {0}) Error) → OnErr r (IsCleared alloc old new)
    → IfErr r (λ error. R error.kind ⊎ ((new.spaces ≡ []) × E error.kind) ⊎ FindsNoRoom alloc measured old new.spaces error.kind)
    → IfErr r (λ error. R error.kind ⊎ E error.kind ⊎ FoundNoRoom alloc measured old error.kind)
found_no_room alloc measured R E old new (Ok done) nulled kind = tt
found_no_room alloc measured R E old new (Err error) nulled kind = elim kind [
  | inl fails ↦ inl fails
  | inr rest ↦ elim rest [
    | inl first ↦ inr (inl first.1)
    | inr no_room ↦ inr (inr (record { cleared = new; is_cleared = nulled; no_room = no_room }))
  ]
]
