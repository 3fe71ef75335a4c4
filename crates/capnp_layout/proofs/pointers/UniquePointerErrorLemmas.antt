-- A pointer fails with at most one error.
use Rattle.std.proofs.Common.{◌≡◌, ◌⊎◌, inl, inr, ℕ, ◌+◌, ◌<◌, ◌≤◌, List, length, Some, None, slice_get, refl, sym, ◌∙◌, subst, arith}
use Rattle.capnp_frame.specs.declared.error.ErrorKind.{ErrorKind}
use Rattle.capnp_frame.specs.declared.error.ErrorKind.TheVariants.{PointerOutOfBounds, InvalidSegmentId, NestingLimitExceeded, CapabilityRefused, WrongPointerKind}
use Rattle.capnp_layout.specs.Prelude.{pointer_kind, code, has_wide_landing_pad, landing_pad_segment, list_count, word_at, IsFar, landing_pad, landing_pad_tag, IsStart, Target, Lands, NotLocal, NoWord, no_segment, past_segment, BadLandingPad, no_landing_pad, far_again, landing_pad_capability, no_tag, not_far, no_content, far_tag, capability_tag, SizeError, struct_outside, list_outside, structs_outside, odd_tag, many_elements, PointerError, no_word, capability, bad_landing_pad, too_deep, no_start, misfits}
use Rattle.capnp_layout.specs.declared.place.Place.{Place}
use Rattle.capnp_layout.proofs.objects.UniqueObjectLemmas.{one_word_at, one_landing, one_start}
use Rattle.capnp_layout.proofs.pointers.ErrorExcludesObjectLemmas.{no_word_there, lands_by_a_word, capability_lands_nowhere, bad_landing_pad_points_nowhere}

one_missing_word : (m : List (List ℕ)) (place : Place) (a b : ErrorKind) → NoWord m place a → NoWord m place b → a ≡ b
one_missing_word m place a b (no_segment e) (no_segment f) = refl
one_missing_word m place a b (no_segment e) (past_segment f _) = absurd cc
one_missing_word m place a b (past_segment e _) (no_segment f) = absurd cc
one_missing_word m place a b (past_segment e _) (past_segment f _) = refl

one_odd_word : (word : ℕ) (a b : ErrorKind) → NotLocal word a → NotLocal word b → a ≡ b
one_odd_word word a b (inl p) (inl q) = p.1 ∙ sym q.1
one_odd_word word a b (inl p) (inr q) = absurd (omega (arith, p.0, q.0))
one_odd_word word a b (inr p) (inl q) = absurd (omega (arith, p.0, q.0))
one_odd_word word a b (inr p) (inr q) = p.1 ∙ sym q.1

-- the error of a landing pad of two words after its first word
data WideCase (m : List (List ℕ)) (word inner : ℕ) : ErrorKind → Type 0 where
  without_tag : word_at m (landing_pad_tag word) ≡ None → WideCase m word inner PointerOutOfBounds
  points_no_further : {tag : ℕ} → word_at m (landing_pad_tag word) ≡ Some tag → (IsFar inner 0 → ⊥) → WideCase m word inner PointerOutOfBounds
  without_content : {tag : ℕ} → word_at m (landing_pad_tag word) ≡ Some tag → IsFar inner 0 → slice_get m (landing_pad_segment inner) ≡ None
      → WideCase m word inner (InvalidSegmentId (landing_pad_segment inner))
  by_tag : {tag : ℕ} {words : List ℕ} {kind : ErrorKind} → word_at m (landing_pad_tag word) ≡ Some tag → IsFar inner 0 → slice_get m (landing_pad_segment inner) ≡ Some words
      → NotLocal tag kind → WideCase m word inner kind

one_wide_error : (m : List (List ℕ)) (word inner : ℕ) (a b : ErrorKind) → WideCase m word inner a → WideCase m word inner b → a ≡ b
one_wide_error m word inner a b (without_tag e) (without_tag f) = refl
one_wide_error m word inner a b (without_tag e) (points_no_further f _) = refl
one_wide_error m word inner a b (without_tag e) (without_content f _ _) = absurd cc
one_wide_error m word inner a b (without_tag e) (by_tag f _ _ _) = absurd cc
one_wide_error m word inner a b (points_no_further e _) (without_tag f) = refl
one_wide_error m word inner a b (points_no_further e none) (points_no_further f _) = refl
one_wide_error m word inner a b (points_no_further e none) (without_content f far _) = absurd (none far)
one_wide_error m word inner a b (points_no_further e none) (by_tag f far _ _) = absurd (none far)
one_wide_error m word inner a b (without_content e far _) (without_tag f) = absurd cc
one_wide_error m word inner a b (without_content e far _) (points_no_further f none) = absurd (none far)
one_wide_error m word inner a b (without_content e _ _) (without_content f _ _) = refl
one_wide_error m word inner a b (without_content e _ missing) (by_tag f _ content _) = absurd cc
one_wide_error m word inner a b (by_tag e far _ _) (without_tag f) = absurd cc
one_wide_error m word inner a b (by_tag e far _ _) (points_no_further f none) = absurd (none far)
one_wide_error m word inner a b (by_tag e _ content _) (without_content f _ missing) = absurd cc
one_wide_error m word inner a b (by_tag {tag = v} e _ _ p) (by_tag {tag = w} f _ _ q) =
    let same : v ≡ w = one_word_at m (landing_pad_tag word) v w e f in one_odd_word w a b (subst (λ (t : ℕ). NotLocal t a) same p) q

-- the error of a landing pad, by its first word
data LandingPadCase (m : List (List ℕ)) (word : ℕ) : ErrorKind → Type 0 where
  by_none : {kind : ErrorKind} → NoWord m (landing_pad word) kind → LandingPadCase m word kind
  narrow : {tag : ℕ} {kind : ErrorKind} → has_wide_landing_pad word ≡ 0 → word_at m (landing_pad word) ≡ Some tag → NotLocal tag kind → LandingPadCase m word kind
  wide : {inner : ℕ} {kind : ErrorKind} → has_wide_landing_pad word ≡ 1 → word_at m (landing_pad word) ≡ Some inner → WideCase m word inner kind → LandingPadCase m word kind

landing_pad_case : (m : List (List ℕ)) (word : ℕ) (kind : ErrorKind) → BadLandingPad m word kind → LandingPadCase m word kind
landing_pad_case m word kind (no_landing_pad none) = by_none none
landing_pad_case m word kind (far_again w e k) = narrow w e (inl (k, refl))
landing_pad_case m word kind (landing_pad_capability w e k) = narrow w e (inr (k, refl))
landing_pad_case m word kind (no_tag w e f) = wide w e (without_tag f)
landing_pad_case m word kind (not_far w e f none) = wide w e (points_no_further f none)
landing_pad_case m word kind (no_content w e f far none) = wide w e (without_content f far none)
landing_pad_case m word kind (far_tag w e f far content k) = wide w e (by_tag f far content (inl (k, refl)))
landing_pad_case m word kind (capability_tag w e f far content k) = wide w e (by_tag f far content (inr (k, refl)))

one_landing_pad_error : (m : List (List ℕ)) (word : ℕ) (a b : ErrorKind) → LandingPadCase m word a → LandingPadCase m word b → a ≡ b
one_landing_pad_error m word a b (by_none p) (by_none q) = one_missing_word m (landing_pad word) a b p q
one_landing_pad_error m word a b (by_none p) (narrow _ f _) = let e = no_word_there m (landing_pad word) a p in absurd cc
one_landing_pad_error m word a b (by_none p) (wide _ f _) = let e = no_word_there m (landing_pad word) a p in absurd cc
one_landing_pad_error m word a b (narrow _ e _) (by_none q) = let f = no_word_there m (landing_pad word) b q in absurd cc
one_landing_pad_error m word a b (narrow {tag = v} _ e p) (narrow {tag = w} _ f q) =
    let same : v ≡ w = one_word_at m (landing_pad word) v w e f in one_odd_word w a b (subst (λ (t : ℕ). NotLocal t a) same p) q
one_landing_pad_error m word a b (narrow k _ _) (wide l _ _) = absurd (omega arith)
one_landing_pad_error m word a b (wide _ e _) (by_none q) = let f = no_word_there m (landing_pad word) b q in absurd cc
one_landing_pad_error m word a b (wide k _ _) (narrow l _ _) = absurd (omega arith)
one_landing_pad_error m word a b (wide {inner = i} _ e p) (wide {inner = j} _ f q) =
    let same : i ≡ j = one_word_at m (landing_pad word) i j e f in one_wide_error m word j a b (subst (λ (t : ℕ). WideCase m word t a) same p) q

one_bad_landing_pad : (m : List (List ℕ)) (word : ℕ) (a b : ErrorKind) → BadLandingPad m word a → BadLandingPad m word b → a ≡ b
one_bad_landing_pad m word a b p q = one_landing_pad_error m word a b (landing_pad_case m word a p) (landing_pad_case m word b q)

-- the tag of a list of structs is no struct pointer
record OddTag (words : List ℕ) (start pointer : ℕ) : Type 0 where
  tag : ℕ
  is_list : pointer_kind pointer ≡ 1
  of_structs : code pointer ≡ 7
  inside : start + 1 + list_count pointer ≤ length words
  there : slice_get words start ≡ Some tag
  odd : 0 < pointer_kind tag

misfit_is_odd : (words : List ℕ) (start pointer : ℕ) (kind : ErrorKind) → OddTag words start pointer → SizeError words start pointer kind → kind ≡ WrongPointerKind
misfit_is_odd words start pointer kind o (struct_outside k _) = absurd (omega (arith, o.is_list))
misfit_is_odd words start pointer kind o (list_outside _ c _) = absurd (omega (arith, o.of_structs))
misfit_is_odd words start pointer kind o (structs_outside _ _ l) = absurd (omega (arith, o.inside))
misfit_is_odd words start pointer kind o (odd_tag _ _ _ _ _) = refl
misfit_is_odd words start pointer kind o (many_elements {tag = v} _ _ _ e even _) =
    let there = o.there in let same : v ≡ o.tag = cc in absurd (omega (arith, o.odd))

odd_or_outside : (words : List ℕ) (start pointer : ℕ) (kind : ErrorKind) → SizeError words start pointer kind → OddTag words start pointer ⊎ (kind ≡ PointerOutOfBounds)
odd_or_outside words start pointer kind (struct_outside _ _) = inr refl
odd_or_outside words start pointer kind (list_outside _ _ _) = inr refl
odd_or_outside words start pointer kind (structs_outside _ _ _) = inr refl
odd_or_outside words start pointer kind (odd_tag {tag = v} k c i e o) = inl (record { tag = v; is_list = k; of_structs = c; inside = i; there = e; odd = o })
odd_or_outside words start pointer kind (many_elements _ _ _ _ _ _) = inr refl

one_misfit : (words : List ℕ) (start pointer : ℕ) (a b : ErrorKind) → SizeError words start pointer a → SizeError words start pointer b → a ≡ b
one_misfit words start pointer a b p q =
    elim (odd_or_outside words start pointer a p) as (λ _. a ≡ b) [
      | inl odd ↦ misfit_is_odd words start pointer a odd p ∙ sym (misfit_is_odd words start pointer b odd q)
      | inr outside ↦ elim (odd_or_outside words start pointer b q) as (λ _. a ≡ b) [
        | inl odd ↦ misfit_is_odd words start pointer a odd p ∙ sym (misfit_is_odd words start pointer b odd q)
        | inr outside_too ↦ outside ∙ sym outside_too
      ]
    ]

-- a pointer that points nowhere, and its error
data PointsNowhere (m : List (List ℕ)) (place : Place) : ErrorKind → Type 0 where
  by_no_word : {kind : ErrorKind} → NoWord m place kind → PointsNowhere m place kind
  by_capability : {word : ℕ} → word_at m place ≡ Some word → pointer_kind word ≡ 3 → PointsNowhere m place CapabilityRefused
  by_landing_pad : {word : ℕ} {kind : ErrorKind} → word_at m place ≡ Some word → pointer_kind word ≡ 2 → BadLandingPad m word kind → PointsNowhere m place kind

points_nowhere : (m : List (List ℕ)) (place : Place) (kind : ErrorKind) (c : Target) → PointsNowhere m place kind → Lands m place c → ⊥
points_nowhere m place kind c (by_no_word none) lands = lands_by_a_word m place c (no_word_there m place kind none) lands
points_nowhere m place kind c (by_capability {word = w} e k) lands = capability_lands_nowhere m place w c e k lands
points_nowhere m place kind c (by_landing_pad {word = w} e k bad) lands = bad_landing_pad_points_nowhere m place w kind c e k bad lands

one_way_nowhere : (m : List (List ℕ)) (place : Place) (a b : ErrorKind) → PointsNowhere m place a → PointsNowhere m place b → a ≡ b
one_way_nowhere m place a b (by_no_word p) (by_no_word q) = one_missing_word m place a b p q
one_way_nowhere m place a b (by_no_word p) (by_capability f _) = let e = no_word_there m place a p in absurd cc
one_way_nowhere m place a b (by_no_word p) (by_landing_pad f _ _) = let e = no_word_there m place a p in absurd cc
one_way_nowhere m place a b (by_capability e _) (by_no_word q) = let f = no_word_there m place b q in absurd cc
one_way_nowhere m place a b (by_capability _ _) (by_capability _ _) = refl
one_way_nowhere m place a b (by_capability {word = v} e k) (by_landing_pad {word = w} f l _) = let same : v ≡ w = one_word_at m place v w e f in absurd (omega arith)
one_way_nowhere m place a b (by_landing_pad e _ _) (by_no_word q) = let f = no_word_there m place b q in absurd cc
one_way_nowhere m place a b (by_landing_pad {word = v} e k _) (by_capability {word = w} f l) = let same : v ≡ w = one_word_at m place v w e f in absurd (omega arith)
one_way_nowhere m place a b (by_landing_pad {word = v} e _ p) (by_landing_pad {word = w} f _ q) =
    let same : v ≡ w = one_word_at m place v w e f in one_bad_landing_pad m w a b (subst (λ (x : ℕ). BadLandingPad m x a) same p) q

-- the error of a landing
data LandingCase (m : List (List ℕ)) (landing : Target) (nesting : ℕ) : ErrorKind → Type 0 where
  deeper : nesting ≡ 0 → LandingCase m landing nesting NestingLimitExceeded
  before_all : 0 < nesting → ((start : ℕ) → IsStart landing.origin landing.tag start → ⊥) → LandingCase m landing nesting PointerOutOfBounds
  by_misfit : {words : List ℕ} {start : ℕ} {kind : ErrorKind} → 0 < nesting → IsStart landing.origin landing.tag start
      → slice_get m landing.segment ≡ Some words → SizeError words start landing.tag kind → LandingCase m landing nesting kind

one_landing_error : (m : List (List ℕ)) (c : Target) (nesting : ℕ) (a b : ErrorKind) → LandingCase m c nesting a → LandingCase m c nesting b → a ≡ b
one_landing_error m c nesting a b (deeper _) (deeper _) = refl
one_landing_error m c nesting a b (deeper e) (before_all f _) = absurd (omega arith)
one_landing_error m c nesting a b (deeper e) (by_misfit f _ _ _) = absurd (omega arith)
one_landing_error m c nesting a b (before_all e _) (deeper f) = absurd (omega arith)
one_landing_error m c nesting a b (before_all _ _) (before_all _ _) = refl
one_landing_error m c nesting a b (before_all _ none) (by_misfit {start = i} _ begins _ _) = absurd (none i begins)
one_landing_error m c nesting a b (by_misfit e _ _ _) (deeper f) = absurd (omega arith)
one_landing_error m c nesting a b (by_misfit {start = i} _ begins _ _) (before_all _ none) = absurd (none i begins)
one_landing_error m c nesting a b (by_misfit {words = v} {start = i} _ begins e p) (by_misfit {words = w} {start = j} _ begins_too f q) =
    let words : v ≡ w = cc in
    let start : i ≡ j = one_start c.origin c.tag i j begins begins_too in
    let moved : SizeError w j c.tag a = subst (λ (x : ℕ). SizeError w x c.tag a) start (subst (λ (x : List ℕ). SizeError x i c.tag a) words p) in
    one_misfit w j c.tag a b moved q

-- the error of a pointer on the way to its object, or at the object
data PointerErrorCase (m : List (List ℕ)) (place : Place) (nesting : ℕ) (kind : ErrorKind) : Type 0 where
  on_its_way : PointsNowhere m place kind → PointerErrorCase m place nesting kind
  after_it : {landing : Target} → Lands m place landing → LandingCase m landing nesting kind → PointerErrorCase m place nesting kind

fails_with : (m : List (List ℕ)) (place : Place) (nesting : ℕ) (kind : ErrorKind) → PointerError m place nesting kind → PointerErrorCase m place nesting kind
fails_with m place nesting kind (no_word none) = on_its_way (by_no_word none)
fails_with m place nesting kind (capability e k) = on_its_way (by_capability e k)
fails_with m place nesting kind (bad_landing_pad e k bad) = on_its_way (by_landing_pad e k bad)
fails_with m place nesting kind (too_deep lands e) = after_it lands (deeper e)
fails_with m place nesting kind (no_start lands e none) = after_it lands (before_all e none)
fails_with m place nesting kind (misfits lands e begins content misfit) = after_it lands (by_misfit e begins content misfit)

one_case_error : (m : List (List ℕ)) (place : Place) (nesting : ℕ) (a b : ErrorKind) → PointerErrorCase m place nesting a → PointerErrorCase m place nesting b → a ≡ b
one_case_error m place nesting a b (on_its_way p) (on_its_way q) = one_way_nowhere m place a b p q
one_case_error m place nesting a b (on_its_way p) (after_it {landing = d} lands _) = absurd (points_nowhere m place a d p lands)
one_case_error m place nesting a b (after_it {landing = c} lands _) (on_its_way q) = absurd (points_nowhere m place b c q lands)
one_case_error m place nesting a b (after_it {landing = c} lands p) (after_it {landing = d} lands_too q) =
    let same : c ≡ d = one_landing m place c d lands lands_too in
    one_landing_error m d nesting a b (subst (λ (x : Target). LandingCase m x nesting a) same p) q

pub one_error : (m : List (List ℕ)) (place : Place) (nesting : ℕ) (a b : ErrorKind) → PointerError m place nesting a → PointerError m place nesting b → a ≡ b
one_error m place nesting a b p q = one_case_error m place nesting a b (fails_with m place nesting a p) (fails_with m place nesting b q)
