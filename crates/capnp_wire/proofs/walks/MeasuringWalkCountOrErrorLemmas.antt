-- A walk that measures what a pointer points to counts the words of its trees, and fails exactly where it stops or
-- where these are 2 ^ 64 or more.
use Rattle.std.proofs.Common.{◌≡◌, ℕ, ◌+◌, ◌-◌, ◌<◌, ◌≤◌, ◌^◌, ◌⊎◌, List, [], ◌∷◌, Option, Some, None, MatchOption, false, Result}
use Rattle.std.proofs.Common.{Ok, Err, MatchResult, IsOk, IfOk, inl, inr, refl, sym, ◌∙◌, ap, subst, arith}
use Rattle.std.specs.Result.{IsErrAnd}
use Rattle.capnp_frame.specs.declared.error.Error.{Error}
use Rattle.capnp_frame.specs.declared.error.ErrorKind.{ErrorKind}
use Rattle.capnp_frame.specs.declared.error.ErrorKind.TheVariants.{AllocationTooLarge}
use Rattle.capnp_layout.specs.Prelude.{total_words, Within, TreesAt, WalkError}
use Rattle.capnp_wire.specs.Prelude.{TreesWithRoom, Walked, Pointer, Measures, MeasuringError}
use Rattle.capnp_layout.specs.declared.place.Place.{Place}
use Rattle.capnp_wire.specs.declared.message_size.MessageSize.{MessageSize}
use Rattle.capnp_layout.proofs.objects.UniqueObjectLemmas.{one_tree}
use Rattle.capnp_wire.proofs.walks.WalkErrorExcludesTreesLemmas.{walk_error_has_no_trees, one_walk_error}

pub measures_nothing : (p : Pointer) → p.place ≡ None → Measures p 0
measures_nothing p e =
    subst (λ (o : Option Place). MatchOption o (◌≡◌ {A = ℕ} 0 0) (λ place. (traversed : ℕ) × TreesAt p.message (place ∷ []) p.nesting traversed 0 × Within p.limit traversed)) (sym e) refl

pub measures_at : (p : Pointer) (place : Place) (words traversed : ℕ) → p.place ≡ Some place → TreesAt p.message (place ∷ []) p.nesting traversed words → Within p.limit traversed → Measures p words
measures_at p place words traversed e s w =
    subst (λ (o : Option Place). MatchOption o (words ≡ 0) (λ at. (c : ℕ) × TreesAt p.message (at ∷ []) p.nesting c words × Within p.limit c)) (sym e) (traversed, s, w)

measured_there : (p : Pointer) (place : Place) (words : ℕ) → p.place ≡ Some place → Measures p words → (c : ℕ) × TreesAt p.message (place ∷ []) p.nesting c words × Within p.limit c
measured_there p place words e m =
    subst (λ (o : Option Place). MatchOption o (words ≡ 0) (λ at. (c : ℕ) × TreesAt p.message (at ∷ []) p.nesting c words × Within p.limit c)) e m

pub walked_as : (m : List (List ℕ)) (place : Place) (nesting : ℕ) (limit limit_is left counted counted_is now now_is : Option ℕ) → limit ≡ limit_is → counted ≡ counted_is → now ≡ now_is
    → Walked m false place nesting limit left counted now → Walked m false place nesting limit_is left counted_is now_is
walked_as m place nesting limit limit_is left counted counted_is now now_is e f g w =
    subst (λ (x : Option ℕ). Walked m false place nesting limit_is left counted_is x) g
    (subst (λ (x : Option ℕ). Walked m false place nesting limit_is left x now) f
    (subst (λ (x : Option ℕ). Walked m false place nesting x left counted now) e w))

untrimmed_at : (m : List (List ℕ)) (place : Place) (nesting traversed words : ℕ) → TreesWithRoom m (place ∷ []) nesting traversed false words → TreesAt m (place ∷ []) nesting traversed words
untrimmed_at m place nesting traversed words s = record { trees = s.trees; are_at = s.are_at; shallow = s.shallow; words_are = s.words_are }

pub walk_measures : (p : Pointer) (place : Place) (words : ℕ) (left : Option ℕ) → p.place ≡ Some place → Walked p.message false place p.nesting p.limit left (Some 0) (Some words) → Measures p words
walk_measures p place words left e w =
    let counted : words ≡ 0 + w.words = w.counted 0 refl in
    let same : w.words ≡ words = omega arith in
    measures_at p place words w.traversed e (subst (λ (n : ℕ). TreesAt p.message (place ∷ []) p.nesting w.traversed n) same (untrimmed_at p.message place p.nesting w.traversed w.words w.are_at)) w.within

pub walk_overflows : (p : Pointer) (place : Place) (left : Option ℕ) (kind : ErrorKind) → p.place ≡ Some place → Walked p.message false place p.nesting p.limit left (Some 0) None
    → kind ≡ AllocationTooLarge (2 ^ 32 - 1) → MeasuringError p kind
walk_overflows p place left kind e w is =
    let counted : 2 ^ 64 ≤ 0 + w.words = w.counted 0 refl in
    (place, e, inr (w.words, measures_at p place w.words w.traversed e (untrimmed_at p.message place p.nesting w.traversed w.words w.are_at) w.within, omega arith, is))

pub measuring_walk_fails : (p : Pointer) (place : Place) (kind : ErrorKind) → p.place ≡ Some place → WalkError p.message (place ∷ []) p.nesting p.limit kind → MeasuringError p kind
measuring_walk_fails p place kind e walk_error = (place, e, inl walk_error)

same_words : (p : Pointer) (place : Place) (v w : ℕ) → p.place ≡ Some place → Measures p v → Measures p w → v ≡ w
same_words p place v w e a b =
    let x = measured_there p place v e a in
    let y = measured_there p place w e b in
    let same = one_tree p.message (place ∷ []) x.1.trees y.1.trees x.0 y.0 x.1.are_at y.1.are_at in
    sym x.1.words_are ∙ ap total_words same.0 ∙ y.1.words_are

error_unmeasured : (p : Pointer) (place : Place) (words : ℕ) (kind : ErrorKind) → p.place ≡ Some place → Measures p words → WalkError p.message (place ∷ []) p.nesting p.limit kind → ⊥
error_unmeasured p place words kind e m walk_error =
    let x = measured_there p place words e m in
    walk_error_has_no_trees p.message (place ∷ []) p.nesting x.0 p.limit kind x.1.trees walk_error x.1.are_at x.1.shallow x.2

error_or_measures : (p : Pointer) (place : Place) (words : ℕ) (kind : ErrorKind) → p.place ≡ Some place → Measures p words → words < 2 ^ 64
    → WalkError p.message (place ∷ []) p.nesting p.limit kind ⊎ ((n : ℕ) × Measures p n × (2 ^ 64 ≤ n) × (kind ≡ AllocationTooLarge (2 ^ 32 - 1))) → ⊥
error_or_measures p place words kind e m small (inl walk_error) = error_unmeasured p place words kind e m walk_error
error_or_measures p place words kind e m small (inr large) =
    let same : words ≡ large.0 = same_words p place words large.0 e m large.1 in
    omega (arith, large.2)

pub measured_is_ok : {V : Type 0} (p : Pointer) (shows : V → Type 0) (r : Result V Error) → MatchResult r shows (λ e. MeasuringError p e.kind)
    → (words : ℕ) → Measures p words → words < 2 ^ 64 → IsOk r
measured_is_ok p shows (Ok v) found words m small = refl
measured_is_ok p shows (Err e) errors words m small = absurd (error_or_measures p errors.0 words e.kind errors.1 m small errors.2)

one_measuring_error : (p : Pointer) (place : Place) (a b : ErrorKind) → p.place ≡ Some place
    → WalkError p.message (place ∷ []) p.nesting p.limit a ⊎ ((n : ℕ) × Measures p n × (2 ^ 64 ≤ n) × (a ≡ AllocationTooLarge (2 ^ 32 - 1)))
    → WalkError p.message (place ∷ []) p.nesting p.limit b ⊎ ((n : ℕ) × Measures p n × (2 ^ 64 ≤ n) × (b ≡ AllocationTooLarge (2 ^ 32 - 1)))
    → a ≡ b
one_measuring_error p place a b e (inl walk_error) (inl others) = one_walk_error p.message (place ∷ []) p.nesting p.limit a b walk_error others
one_measuring_error p place a b e (inl walk_error) (inr large) = absurd (error_unmeasured p place large.0 a e large.1 walk_error)
one_measuring_error p place a b e (inr large) (inl walk_error) = absurd (error_unmeasured p place large.0 b e large.1 walk_error)
one_measuring_error p place a b e (inr large) (inr others) = large.3 ∙ sym others.3

one_unmeasured : (p : Pointer) (a b : ErrorKind) → MeasuringError p a → MeasuringError p b → a ≡ b
one_unmeasured p a b x y =
    let there = x.1 in
    let there_too = y.1 in
    let same : y.0 ≡ x.0 = cc in
    one_measuring_error p x.0 a b x.1 x.2
    (subst (λ (place : Place). WalkError p.message (place ∷ []) p.nesting p.limit b ⊎ ((n : ℕ) × Measures p n × (2 ^ 64 ≤ n) × (b ≡ AllocationTooLarge (2 ^ 32 - 1)))) same y.2)

pub unmeasured_is_err : (p : Pointer) (r : Result MessageSize Error) → MatchResult r (λ size. Measures p size.word_count × (size.cap_count ≡ 0)) (λ e. MeasuringError p e.kind)
    → IfOk r (λ size. size.word_count < 2 ^ 64) → (kind : ErrorKind) → MeasuringError p kind → IsErrAnd r (λ e. e.kind ≡ kind)
unmeasured_is_err p (Ok size) found small kind is = absurd (error_or_measures p is.0 size.word_count kind is.1 found.0 small is.2)
unmeasured_is_err p (Err e) errors small kind is = one_unmeasured p e.kind kind errors is
