-- A root has a canonical form of at most one size or one error, and never both. A form fails to go into a buffer
-- only with BufferNotLargeEnough, and only where it is longer.
use Rattle.std.proofs.Common.{◌≡◌, ◌⊎◌, ℕ, ℤ, ◌+◌, ◌*◌, ◌≤◌, true, Option, List, ◌++◌, length, take, Ok, Err, inl, inr, refl, sym, ap, ◌∙◌, subst, arith, length-append}
use Rattle.std.proofs.Math.Seq.{take-append_seam}
use Rattle.capnp_frame.specs.declared.error.ErrorKind.{ErrorKind}
use Rattle.capnp_frame.specs.declared.error.ErrorKind.TheVariants.{BufferNotLargeEnough}
use Rattle.capnp_layout.specs.Prelude.{words_of, message_of, root, NoWord, no_word, at_pointer}
use Rattle.capnp_wire.specs.Prelude.{Pointer, IsCanonicalForm, PointsToTree, WalkErrorFrom}
use Rattle.capnp_wire.proofs.views.UniqueValueTreeAndMeasureLemmas.{one_of_pointer, measured_exactly, measured_found}
use Rattle.capnp_c.specs.Fronts.{root_within, RootHasForm, RootCanonicalFormError, IsShort}

-- a form that fills the front of a block
pub front_form : (p : Pointer) (n : ℕ) (new following : List ℕ) → length new ≡ n → IsCanonicalForm p (words_of new) → (n ≤ length (new ++ following)) × IsCanonicalForm p (words_of (take n (new ++ following)))
front_form p n new following long form =
    let front : take n (new ++ following) ≡ new = ap (λ k. take k (new ++ following)) (sym long) ∙ take-append_seam new following in
    (omega (arith, long, length-append new following), subst (λ l. IsCanonicalForm p (words_of l)) (sym front) form)

-- Which messages have a form

-- a message whose root is at no word has none
pub root_form_error : (nesting : ℤ) (limit : Option ℕ) (segments : List (List ℕ)) (kind : ErrorKind) → NoWord (message_of segments) root kind → RootCanonicalFormError (root_within nesting limit segments) kind
root_form_error nesting limit segments kind none = inl (root, refl, at_pointer (no_word none))

-- and a message that has a form has no reason against it
pub has_or_error : (p : Pointer) (words : ℕ) (kind : ErrorKind) → RootHasForm p words → RootCanonicalFormError p kind → ⊥
has_or_error p words kind has form_error = measured_exactly (PointsToTree p) (WalkErrorFrom p) (one_of_pointer p) true (Ok has.0) has.1 kind form_error

-- there is one reason, and one size
pub one_reason : (p : Pointer) (a b : ErrorKind) → RootCanonicalFormError p a → RootCanonicalFormError p b → a ≡ b
one_reason p a b x y = measured_exactly (PointsToTree p) (WalkErrorFrom p) (one_of_pointer p) true (Err (record { kind = a })) x b y

pub one_size : (p : Pointer) (a b : ℕ) → RootHasForm p a → RootHasForm p b → a ≡ b
one_size p a b x y =
    let same = measured_found (PointsToTree p) (WalkErrorFrom p) (one_of_pointer p) true (Ok x.0) x.1 y.0 y.1 in
    let following : x.0 ≡ y.0 = cc in
    x.2 ∙ ap (λ n. n + 1) following ∙ sym y.2

-- The error of a form that is to be written into this many bytes

pub form_fits : (p : Pointer) (room size : ℕ) (kind : ErrorKind) → RootCanonicalFormError p kind ⊎ IsShort p room kind → RootHasForm p size → 8 * size ≤ room → ⊥
form_fits p room size kind (inl form_error) has fits = has_or_error p size kind has form_error
form_fits p room size kind (inr (other, form, short, is)) has fits = absurd (omega (arith, fits, short, one_size p other size form has))

pub form_is_short : (p : Pointer) (room size : ℕ) (kind : ErrorKind) → RootCanonicalFormError p kind ⊎ IsShort p room kind → RootHasForm p size → kind ≡ BufferNotLargeEnough
form_is_short p room size kind (inl form_error) has = absurd (has_or_error p size kind has form_error)
form_is_short p room size kind (inr (other, form, short, is)) has = is

pub form_error_is : (p : Pointer) (room : ℕ) (own kind : ErrorKind) → RootCanonicalFormError p own ⊎ IsShort p room own → RootCanonicalFormError p kind → own ≡ kind
form_error_is p room own kind (inl form_error) other = one_reason p own kind form_error other
form_error_is p room own kind (inr (size, form, short, is)) other = absurd (has_or_error p size kind form other)
