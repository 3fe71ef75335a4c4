-- How many words of landing pads are on the way to an object, by the far pointer that is found in place of its
-- pointer.
use Rattle.std.proofs.Common.{◌≡◌, ℕ, ◌+◌, if◌then◌else◌, Bool, true, false, List, Some, None, Option, slice_get, IfSome, MatchOption, refl, arith}
use Rattle.capnp_layout.specs.Prelude.{has_wide_landing_pad, word_at, landing_pad, Lands, Target, local, far as by_landing_pad, double_far, IsFarPointer}
use Rattle.capnp_layout.specs.declared.place.Place.{Place}
use Rattle.capnp_layout.specs.declared.pointer.FarPointer.{FarPointer}
use Rattle.capnp_layout.proofs.objects.UniqueObjectLemmas.{one_word_at}
use Rattle.capnp_layout.proofs.pointers.LocalObjectIsAtLemmas.{word_there}
use Rattle.capnp_show.specs.Objects.{landing_pad_words, IsFarIn}

one_or_two : (wide : Bool) (width : ℕ) → width ≡ (if wide then 1 else 0) → (if wide then 2 else 1) ≡ width + 1
one_or_two true width e = omega arith
one_or_two false width e = omega arith

-- a far pointer says how many words its landing pad has
words_of_far : (m : List (List ℕ)) (place : Place) (landing : Target) (word : ℕ) (far : FarPointer) → Lands m place landing → word_at m place ≡ Some word
    → IsFarPointer word far → (if far.is_double_far then 2 else 1) ≡ landing.landing_pads
words_of_far m place landing word far (local {word = w} there _ is_local) at is =
    let same : word ≡ w = one_word_at m place word w at there in
    let kind = is.far_kind in
    absurd (omega arith)
words_of_far m place landing word far (by_landing_pad {word = w} there narrow _ _) at is =
    let same : word ≡ w = one_word_at m place word w at there in
    let words = one_or_two far.is_double_far (has_wide_landing_pad word) is.width in
    let width = narrow.wide in
    omega arith
words_of_far m place landing word far (double_far {word = w} there wide _ _ _ _ _) at is =
    let same : word ≡ w = one_word_at m place word w at there in
    let words = one_or_two far.is_double_far (has_wide_landing_pad word) is.width in
    let width = wide.wide in
    omega arith

-- without one there is no landing pad
no_far : (m : List (List ℕ)) (place : Place) (landing : Target) → Lands m place landing
    → ((far : FarPointer) (word : ℕ) → word_at m place ≡ Some word → IsFarPointer word far → ⊥) → 0 ≡ landing.landing_pads
no_far m place landing (local there _ is_local) none = refl
no_far m place landing (by_landing_pad {word = w} there narrow _ _) none =
    absurd (none (record { landing_pad = landing_pad w; is_double_far = false }) w there (record { far_kind = narrow.far; landing_pad_is = refl; width = narrow.wide }))
no_far m place landing (double_far {word = w} there wide _ _ _ _ _) none =
    absurd (none (record { landing_pad = landing_pad w; is_double_far = true }) w there (record { far_kind = wide.far; landing_pad_is = refl; width = wide.wide }))

-- the words of the landing pad, and the far pointer that leads to it, by what is found at the pointer
pub landing_pad_is : (m : List (List ℕ)) (place : Place) (words : List ℕ) (landing : Target) (found : Option FarPointer) → Lands m place landing
    → slice_get m place.segment ≡ Some words → MatchOption found ((far : FarPointer) → IsFarIn words place.word far → ⊥) (IsFarIn words place.word)
    → (landing_pad_words found ≡ landing.landing_pads) × IfSome found (λ far. (word : ℕ) × (word_at m place ≡ Some word) × IsFarPointer word far)
landing_pad_is m place words landing None lands there none =
    (no_far m place landing lands (λ far word at is. none far (word, rw there at at, is)), tt)
landing_pad_is m place words landing (Some far) lands there (word, at, is) =
    let word_is = word_there m place words word there at in
    (words_of_far m place landing word far lands word_is is, (word, word_is, is))
