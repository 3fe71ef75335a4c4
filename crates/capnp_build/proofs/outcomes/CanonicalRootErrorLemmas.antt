-- Why setting the root to a value in canonical form fails, and that it does not fail where the value is measured
-- and has room.
use Rattle.std.proofs.Common.{◌≡◌, inl, inr, ℕ, ◌<◌, ◌≤◌, true, length, Ok, Err, sym, ◌∙◌, arith}
use Rattle.capnp_frame.specs.declared.error.Error.{Error}
use Rattle.capnp_frame.specs.declared.error.ErrorKind.{ErrorKind}
use Rattle.capnp_frame.specs.declared.error.ErrorKind.TheVariants.{NotOneSegment, SegmentTaken}
use Rattle.capnp_layout.specs.Prelude.{Trees}
use Rattle.capnp_wire.specs.Prelude.{HasWords, WordsError}
use Rattle.capnp_build.specs.declared.allocator.Allocator as allocator
use Rattle.capnp_build.specs.Prelude.{space_at, free_words_of, Built, SetsRootCanonical, ClearsRoot, ClearedRootError}
use Rattle.capnp_build.proofs.outcomes.SetRootLemmas.{cleared_root, room_first}

-- why a value fails once the root is cleared: `many`, `measured` and `full` say what each line
-- comes to
fails_with : {A S : Type 0} (alloc : allocator.Ghosts A S) (has_tree : Trees → Type 0) (fails : ErrorKind → Type 0) (old cleared : Built A) (kind : ErrorKind) (P : Type 0)
    {done : Unit {0}} → ClearsRoot alloc old cleared (Ok done) → (1 < length cleared.spaces → kind ≡ NotOneSegment → P) → (length cleared.spaces ≡ 1 → WordsError has_tree fails true kind → P)
    → (length cleared.spaces ≡ 1 → kind ≡ NotOneSegment → (words : ℕ) → HasWords has_tree true words → free_words_of (space_at cleared.spaces 0) < words → P)
    → ClearedRootError has_tree fails old.spaces kind → P
fails_with alloc has_tree fails old cleared kind P clear many measured full errors = elim errors [
  | inl m ↦ (let rooms = clear.rooms (omega (arith, m.0)) in many (omega (arith, m.0, rooms.0)) m.1)
  | inr rest ↦ elim rest [
    | inl l ↦ (let rooms = clear.rooms (omega (arith, l.0)) in measured (omega (arith, l.0, rooms.0)) l.1)
    | inr f ↦ (let rooms = clear.rooms (omega (arith, f.0)) in let same = rooms.1 0 in full (omega (arith, f.0, rooms.0)) f.1 f.2.0 f.2.1 (omega (arith, same, f.2.2)))
  ]
]

pub canonical_unmeasured : {A S : Type 0} (alloc : allocator.Ghosts A S) (has_tree : Trees → Type 0) (fails : ErrorKind → Type 0) (old new : Built A) (error : Error)
    {done : Unit {0}} → ClearsRoot alloc old new (Ok done) → length new.spaces ≡ 1 → WordsError has_tree fails true error.kind
    → ((kind : ErrorKind) → WordsError has_tree fails true kind → error.kind ≡ kind) → ((words : ℕ) → HasWords has_tree true words → ⊥)
    → SetsRootCanonical alloc has_tree fails old new (Err error)
canonical_unmeasured alloc has_tree fails old new error clear one words_error exact found = record {
  set = tt;
  placed = tt;
  one = tt;
  whole = λ none. tt;
  nulled = cleared_root alloc old new clear;
  kind = inr (inr (inl (one, words_error)));
  exact = λ kind errors. fails_with alloc has_tree fails old new kind _ clear (λ m k. absurd (omega (arith, one, m))) (λ o l. exact kind l) (λ o k w h f. absurd (found w h)) errors;
  words_error = λ none kind is. inl (exact kind is);
  fits = λ few words has room. absurd (found words has);
  available = λ none out taken. words_error;
  same = clear.same;
  others = clear.others;
}

pub canonical_full : {A S : Type 0} (alloc : allocator.Ghosts A S) (has_tree : Trees → Type 0) (fails : ErrorKind → Type 0) (old new : Built A) (error : Error) (words : ℕ)
    {done : Unit {0}} → ClearsRoot alloc old new (Ok done) → length new.spaces ≡ 1 → error.kind ≡ NotOneSegment → HasWords has_tree true words → free_words_of (space_at new.spaces 0) < words
    → ((kind : ErrorKind) → WordsError has_tree fails true kind → ⊥) → ((other : ℕ) → HasWords has_tree true other → other ≡ words)
    → SetsRootCanonical alloc has_tree fails old new (Err error)
canonical_full alloc has_tree fails old new error words clear one is has full exact found = record {
  set = tt;
  placed = tt;
  one = tt;
  whole = λ none. tt;
  nulled = cleared_root alloc old new clear;
  kind = inr (inr (inr (one, is, (words, has, full))));
  exact = λ kind errors. fails_with alloc has_tree fails old new kind _ clear (λ m k. absurd (omega (arith, one, m))) (λ o l. absurd (exact kind l)) (λ o k w h f. is ∙ sym k) errors;
  words_error = λ none kind words_error. absurd (exact kind words_error);
  fits = λ few other also room. let fit = room_first alloc old new other clear also.few room in absurd (omega (arith, fit, full, found other also));
  available = λ none out taken. let clash : NotOneSegment ≡ SegmentTaken = sym is ∙ taken in absurd (cc);
  same = clear.same;
  others = clear.others;
}

-- a value that is set meets none of the lines
pub set_meets_no_error : {A S : Type 0} (alloc : allocator.Ghosts A S) (has_tree : Trees → Type 0) (fails : ErrorKind → Type 0) (old cleared : Built A) (words : ℕ) (kind : ErrorKind)
    {done : Unit {0}} → ClearsRoot alloc old cleared (Ok done) → length cleared.spaces ≤ 1 → words ≤ free_words_of (space_at cleared.spaces 0)
    → ((kind : ErrorKind) → WordsError has_tree fails true kind → ⊥) → ((other : ℕ) → HasWords has_tree true other → other ≡ words) → ClearedRootError has_tree fails old.spaces kind → ⊥
set_meets_no_error alloc has_tree fails old cleared words kind clear one room exact found errors =
    fails_with alloc has_tree fails old cleared kind ⊥ clear (λ m k. absurd (omega (arith, one, m))) (λ o l. exact kind l)
    (λ o k w h f. absurd (omega (arith, room, f, found w h))) errors
