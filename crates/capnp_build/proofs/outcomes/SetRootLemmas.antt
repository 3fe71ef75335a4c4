-- What setting the root does, from its steps: clearing the root, finding room, placing the block. Looking at the
-- root ends likewise.
use Rattle.std.proofs.Common.{◌≡◌, ◌/◌, inl, inr, ℕ, ◌<◌, ◌≤◌, false, List, [], length, Result, Ok, Err, IfErr, OnOk, refl, ap, subst, sym, ◌+◌, ◌^◌, ◌∷◌, ◌∙◌, arith}
use Rattle.capnp_frame.specs.declared.error.Error.{Error}
use Rattle.capnp_frame.specs.declared.error.ErrorKind.{ErrorKind}
use Rattle.capnp_layout.specs.Prelude.{Form, null, Trees, none}
use Rattle.capnp_wire.specs.Prelude.{HasWords, WordsError}
use Rattle.capnp_build.specs.declared.allocator.Allocator as allocator
use Rattle.capnp_build.specs.declared.owned_builder.OwnedBuilder as owned_builder
use Rattle.capnp_build.specs.declared.root_kind.RootKind.{RootKind}
use Rattle.capnp_build.specs.Prelude.{Space, Out, HasLarge, pairs, space_at, free_words_of, Built, state_of, size_in_words, HasNullRoot, ForRoot, IsSet, RootFormError, HasNoRoom, SegmentError, FindsNoRoom, IsPut, IsGranted, IsCleared, IsLookedAt, PutsBlock, SetsRoot, ClearsRoot, EnsuresRoot, LooksAtRoot, HasRoomFirst, ShowsRoot, HoldsForm}
use Rattle.capnp_frame.specs.Prelude.{IsPreorder}
use Rattle.capnp_build.proofs.roots.NullRootTreeLemmas.{null_root}
use Rattle.capnp_build.proofs.outcomes.BlockPrefersFirstSegmentLemmas.{still_cleared}
use Rattle.capnp_build.proofs.outcomes.FirstBlockSegmentChoiceLemmas.{first_put, no_large}
use Rattle.capnp_build.proofs.states.StayingBytesLemmas.{zero_stays, outside_stays}

pub cleared_root : {A S : Type 0} (alloc : allocator.Ghosts A S) (old last : Built A) {done : Unit {0}} → ClearsRoot alloc old last (Ok done) → IsCleared alloc old last
cleared_root alloc old last told = record {
  null = told.null;
  null_word = told.null_word;
  zero = told.zero;
  size = omega (arith, told.size);
  rooms = told.rooms;
  outside = told.outside;
  new_object = λ empty. inr (told.new_object empty);
  same_allocator = told.same;
  others = told.others;
}

-- a root that is cleared where there was no segment is looked at
pub looked_first : {A S : Type 0} (alloc : allocator.Ghosts A S) (old last : Built A) (r : Result (Unit {0}) Error) → old.spaces ≡ [] → ClearsRoot alloc old last r → IsLookedAt alloc old last
looked_first alloc old last (Ok done) empty told = record {
  stays = λ some. absurd (omega (arith, some, ap length empty));
  null_word = λ _. told.null_word;
  size = omega (arith, told.size);
  new_object = λ _. inr (told.new_object empty);
  granted = λ _ most grants. (told.granted empty most grants).1;
  same_allocator = told.same;
  others = told.others;
}
looked_first alloc old last (Err error) empty told = record {
  stays = λ some. absurd (omega (arith, some, ap length empty));
  null_word = λ _. told.null_word;
  size = let none = ap size_in_words told.none in omega (arith, none);
  new_object = λ _. inl told.none;
  granted = λ _ most grants. (told.granted empty most grants).1;
  same_allocator = told.same;
  others = told.others;
}

-- a block finds the room that the first segment has
pub room_first : {A S : Type 0} (alloc : allocator.Ghosts A S) (old cleared : Built A) (words : ℕ) {done : Unit {0}} → ClearsRoot alloc old cleared (Ok done) → words < 2 ^ 29
    → HasRoomFirst alloc old words → words ≤ free_words_of (space_at cleared.spaces 0)
room_first alloc old cleared words told few room = elim room [
  | inl there ↦ (let same = (told.rooms there.0).1 0 in omega (arith, there.1, same))
  | inr new_object ↦ (let size = (told.granted new_object.0 new_object.1.0 new_object.1.1).1 in let alone = told.new_object new_object.0 in omega (arith, size, alone.1, new_object.1.2, few))
]

pub sets_root_unmeasured : {A S : Type 0} (alloc : allocator.Ghosts A S) (has_tree : Trees → Type 0) (fails : ErrorKind → Type 0) (old new : Built A) (error : Error)
    {done : Unit {0}} → ClearsRoot alloc old new (Ok done) → WordsError has_tree fails false error.kind → ((kind : ErrorKind) → WordsError has_tree fails false kind → error.kind ≡ kind)
    → ((words : ℕ) → HasWords has_tree false words → ⊥) → SetsRoot alloc has_tree fails old new (Err error)
sets_root_unmeasured alloc has_tree fails old new error clear words_error exact found = record {
  set = tt;
  there = tt;
  placed = tt;
  nulled = cleared_root alloc old new clear;
  kind = inl words_error;
  none = λ empty. let l : length new.spaces ≡ 0 = ap length empty in absurd (omega (arith, l, clear.there));
  exact = λ kind is. inl (exact kind is);
  fits = λ words has room. absurd (found words has);
  available = λ empty out taken. words_error;
  same = clear.same;
  others = clear.others;
}

-- an error of the block's segment is not SegmentTaken, where no segment was out
pub block_is_not_taken : {A S : Type 0} (alloc : allocator.Ghosts A S) (old cleared : Built A) (words : ℕ) {done : Unit {0}} → ClearsRoot alloc old cleared (Ok done) → words < 2 ^ 29
    → HasNoRoom cleared.spaces words → ((others : List Out) → alloc.out cleared.allocator (pairs cleared.spaces others) → HasLarge (words + 1) (pairs cleared.spaces others))
    → old.spaces ≡ [] → alloc.out old.allocator [] → ⊥
block_is_not_taken alloc old cleared words clear few full taken empty out =
    no_large cleared.spaces words (clear.new_object empty) full few
    (taken [] (clear.others [] (subst (λ (l : List Space). alloc.out old.allocator (pairs l [])) (sym empty) out)))

-- the first segment stays the granted one
pub still_granted : {A S : Type 0} (alloc : allocator.Ghosts A S) (old cleared : Built A) (spaces : List Space) {done : Unit {0}} → ClearsRoot alloc old cleared (Ok done)
    → (space_at spaces 0).size ≡ (space_at cleared.spaces 0).size → IsGranted alloc old spaces
still_granted alloc old cleared spaces clear same = λ empty most grants. ap (λ (n : ℕ). n / 8) same ∙ (clear.granted empty most grants).1

-- a block that is placed once the root is cleared
pub is_put : {A S : Type 0} (alloc : allocator.Ghosts A S) (root_is : List Space → Type 0) (measured : ℕ → Type 0) (old cleared new : Built A) (words : ℕ) {done over : Unit {0}}
    → ClearsRoot alloc old cleared (Ok done) → measured words → PutsBlock alloc root_is words cleared new (Ok over) → IsPut alloc measured old new
is_put alloc root_is measured old cleared new words clear has told = record {
  cleared = cleared;
  words = words;
  is_cleared = cleared_root alloc old cleared clear;
  words_are = has;
  placed = told.placed;
  first = λ empty. first_put cleared new words (clear.new_object empty) told.placed (told.sizes 0 clear.there);
  granted = still_granted alloc old cleared new.spaces clear (told.sizes 0 clear.there);
  zero = zero_stays old.location cleared.spaces new.spaces clear.following clear.zero told.bytes;
  outside = outside_stays old.location old.spaces cleared.spaces new.spaces clear.outside told.bytes;
}

-- no room is found once the root is cleared
pub finds_no_room : {A S : Type 0} (alloc : allocator.Ghosts A S) (measured : ℕ → Type 0) (old cleared new : Built A) (words : ℕ) {kind : ErrorKind} {done : Unit {0}}
    → ClearsRoot alloc old cleared (Ok done) → measured words → new.spaces ≡ cleared.spaces → HasNoRoom cleared.spaces words × SegmentError alloc (state_of cleared) (words + 1) kind
    → FindsNoRoom alloc measured old new.spaces kind
finds_no_room alloc measured old cleared new words {kind} clear has kept told = record {
  words = words;
  words_are = has;
  full = subst (λ (l : List Space). HasNoRoom l words) (sym kept) told.0;
  asked = cleared.allocator;
  segment_error = subst (λ (l : List Space). SegmentError alloc (record { spaces = l; allocator = cleared.allocator }) (words + 1) kind) (sym kept) told.1;
  stays = clear.stays;
  same = clear.same;
}

-- a value's block is placed once the root is cleared
pub sets_root : {A S : Type 0} (alloc : allocator.Ghosts A S) (has_tree : Trees → Type 0) (fails : ErrorKind → Type 0) (old cleared new : Built A) (words : ℕ)
    {done : Unit {0}} (r : Result (Unit {0}) Error) → IsPreorder alloc.same → ClearsRoot alloc old cleared (Ok done) → HasWords has_tree false words
    → ((kind : ErrorKind) → WordsError has_tree fails false kind → ⊥) → ((other : ℕ) → HasWords has_tree false other → other ≡ words)
    → PutsBlock alloc (IsSet has_tree false) words cleared new r → SetsRoot alloc has_tree fails old new r
sets_root alloc has_tree fails old cleared new words (Ok done) keeps clear has exact found told = record {
  set = told.set;
  there = told.there;
  placed = is_put alloc (IsSet has_tree false) (HasWords has_tree false) old cleared new words clear has told;
  nulled = tt;
  kind = tt;
  none = λ empty. tt;
  exact = λ kind words_error. absurd (exact kind words_error);
  fits = λ other also room. refl;
  available = λ empty out. tt;
  same = keeps.transitive _ _ _ clear.same told.same;
  others = λ others is. told.others others (clear.others others is);
}
sets_root alloc has_tree fails old cleared new words (Err error) keeps clear has exact found told = record {
  set = tt;
  there = tt;
  placed = tt;
  nulled = still_cleared alloc old cleared new (Err error) keeps (cleared_root alloc old cleared clear) told.errors told.kept told.same told.others;
  kind = inr (inr (finds_no_room alloc (HasWords has_tree false) old cleared new words clear has told.kept told.kind));
  none = λ empty. let l : length cleared.spaces ≡ 0 = ap length (sym told.kept ∙ empty) in absurd (omega (arith, l, clear.there));
  exact = λ kind words_error. absurd (exact kind words_error);
  fits = λ other also room.
      let fit = room_first alloc old cleared other clear also.few room in let full = told.kind.0.first in absurd (omega (arith, fit, full, found other also));
  available = λ empty out taken. absurd (block_is_not_taken alloc old cleared words clear has.few told.kind.0 (told.taken taken) empty out);
  same = keeps.transitive _ _ _ clear.same told.same;
  others = λ others is. told.others others (clear.others others is);
}

-- what is rejected where there is a root, null where there was no segment
form_errors : (old last : List Space) (form_error : Form → ErrorKind → Type 0) (kind : ErrorKind) → (0 < length old → last ≡ old) → (old ≡ [] → HasNullRoot last) → 0 < length last
    → ForRoot last (λ form. form_error form kind) → RootFormError form_error old kind
form_errors [] last form_error kind stays null_word there is = let t = null_root last there (null_word refl) in is null none t.0 t.1
form_errors (s ∷ spaces) last form_error kind stays null_word there is = subst (λ (l : List Space). ForRoot l (λ form. form_error form kind)) (stays (omega arith)) is

-- a type takes what is shown of the root, or rejects it
pub looks_at_root : {A S K : Type 0} (alloc : allocator.Ghosts A S) (schema : owned_builder.Ghosts K) (old last : Built A) (shown : RootKind) (bytes : List ℕ) {done : Unit {0}}
    (r : Result (Unit {0}) Error) → EnsuresRoot alloc old last (Ok done) → ForRoot last.spaces (ShowsRoot shown) → ForRoot last.spaces (HoldsForm bytes)
    → OnOk r ((form : Form) → ShowsRoot shown form → HoldsForm bytes form → schema.takes form)
    → IfErr r (λ error. (form : Form) → ShowsRoot shown form → HoldsForm bytes form → schema.form_error form error.kind) → LooksAtRoot alloc schema old last r
looks_at_root alloc schema old last shown bytes (Ok done) told shows holds takes form_error = record {
  taken = λ form children traversed root_is. takes form (shows form children traversed root_is) (holds form children traversed root_is);
  there = told.there;
  looked = told.looked;
  kind = tt;
  none = λ gone. tt;
  granted = λ empty most grants. tt;
  available = λ empty out. tt;
  others = told.others;
}
looks_at_root {A} alloc schema old last shown bytes (Err error) told shows holds takes form_error =
    let is = form_errors old.spaces last.spaces schema.form_error error.kind (λ some. ap (λ (v : Built A). v.spaces) (told.looked.stays some)) told.looked.null_word told.there
    (λ form children traversed root_is. form_error form (shows form children traversed root_is) (holds form children traversed root_is)) in
    record {
      taken = tt;
      there = tt;
      looked = told.looked;
      kind = inr is;
      none = λ gone. absurd (omega (arith, ap length gone, told.there));
      granted = λ empty most grants. is;
      available = λ empty out taken. is;
      others = told.others;
    }
