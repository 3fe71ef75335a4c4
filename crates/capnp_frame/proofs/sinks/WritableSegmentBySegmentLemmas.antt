-- Whether segments can be written, one by one: they can where there are some, fewer than 2 ^ 32, and each is whole
-- words whose number fits a field.
use Rattle.std.proofs.Common.{◌≡◌, ◌↔◌, ℕ, ◌-◌, ◌<◌, ◌≤◌, ◌^◌, Bool, true, false, IsTrue, IsSome, is_some, not, Option, Some, None, Bor, zero, suc, List, [], ◌∷◌, length, take, refl, sym, ◌∙◌, subst, arith}
use Rattle.std.proofs.lemmas.Bool.{false≢true}
use Rattle.std.proofs.lemmas.List.{take_all}
use Rattle.std.proofs.lemmas.Option.{slice_get_within}
use Rattle.std.specs.List.{AllByRecursion}
use Rattle.std.specs.Prelude.{slice_get, option_copied}
use Rattle.capnp_frame.specs.Prelude.{IsWholeWords, word_count, lengths, FitsField, IsWritable}
use Rattle.capnp_frame.proofs.slices.SliceReadersRejectSameBytesLemmas.{index_below}
use Rattle.capnp_frame.proofs.sinks.JoinedChunkListLemmas.{AllByRecursion-at, fits_at, le_of_not_lt}

-- a segment is of whole words, and a table can say how many
abbrev pub IsWholeSegment : List ℕ → Type 0
IsWholeSegment segment = IsWholeWords segment × FitsField (word_count segment)

-- what holds of the items before one, and of that, holds of those up to it
pub AllByRecursion-take-next : {X : Type 0} (P : X → Type 0) (xs : List X) (i : ℕ) (x : X) → slice_get xs i ≡ Some x → P x → AllByRecursion P (take i xs) → AllByRecursion P (take (suc i) xs)
AllByRecursion-take-next P [] i x here p all = cc
AllByRecursion-take-next P (y ∷ ys) zero x here p all = let same : y ≡ x = cc in (subst P (sym same) p, tt)
AllByRecursion-take-next P (y ∷ ys) (suc i) x here p all = (all.0, AllByRecursion-take-next P ys i x here p all.1)

whole_words : (segments : List (List ℕ)) → AllByRecursion IsWholeSegment segments → AllByRecursion IsWholeWords segments
whole_words [] all = tt
whole_words (s ∷ ss) all = (all.0.0, whole_words ss all.1)

fit_fields : (segments : List (List ℕ)) → AllByRecursion IsWholeSegment segments → AllByRecursion FitsField (lengths segments)
fit_fields [] all = tt
fit_fields (s ∷ ss) all = (all.0.1, fit_fields ss all.1)

-- segments that are whole can be written, if a table can say how many they are
pub IsWritable-whole : (segments : List (List ℕ)) → 0 < length segments → length segments < 2 ^ 32 → AllByRecursion IsWholeSegment segments → IsWritable segments
IsWritable-whole segments some few all = record { some = some; few = few; whole = whole_words segments all; each = fit_fields segments all }

-- and each segment that can be written is whole
pub IsWholeSegment-at : (segments : List (List ℕ)) (i : ℕ) (segment : List ℕ) → IsWritable segments → slice_get segments i ≡ Some segment → IsWholeSegment segment
IsWholeSegment-at segments i segment writable here = (AllByRecursion-at IsWholeWords segments i segment writable.whole here, fits_at segments i segment writable.each here)

-- where there is no segment of an index, there are no later ones
ends_there : (segments : List (List ℕ)) (i : ℕ) → slice_get segments i ≡ None → length segments ≤ i
ends_there segments i none = le_of_not_lt (length segments) i (λ less. false≢true (subst IsSome none ((index_below segments i).1 less)))

pub IsWritable-ended : (segments : List (List ℕ)) (i : ℕ) → slice_get segments i ≡ None → i < 2 ^ 32 → 0 < length segments → AllByRecursion IsWholeSegment (take i segments) → IsWritable segments
IsWritable-ended segments i none small some all =
    let past = ends_there segments i none in
    IsWritable-whole segments some (omega arith) (subst (AllByRecursion IsWholeSegment) (take_all i segments past) all)

pub some_segments : (segments : List (List ℕ)) (empty : Bool) → empty ≡ false → IsTrue empty ↔ (segments ≡ []) → 0 < length segments
some_segments [] empty isnt reported = absurd (false≢true (sym isnt ∙ reported.1 refl))
some_segments (s ∷ ss) empty isnt reported = omega arith

-- what is asked for at the end of the longest table
pub writable_at_end : (shown : Option (Bor (List ℕ))) (segments : List (List ℕ)) (ended : Bool) → is_some shown ≡ not ended
    → option_copied shown ≡ slice_get segments (2 ^ 32 - 1) → 0 < length segments → AllByRecursion IsWholeSegment (take (2 ^ 32 - 1) segments)
    → IsTrue ended ↔ IsWritable segments
writable_at_end None segments false reported here some all = absurd (false≢true reported)
writable_at_end None segments true reported here some all = (λ yes. IsWritable-ended segments (2 ^ 32 - 1) (sym here) (omega arith) some all, λ writable. refl)
writable_at_end (Some b) segments true reported here some all = absurd (false≢true (sym reported))
writable_at_end (Some b) segments false reported here some all = (
  λ yes. absurd (false≢true yes),
  λ writable. let within = slice_get_within segments (2 ^ 32 - 1) b.now (sym here) in let few = writable.few in absurd (omega (arith, within, few)),
)
