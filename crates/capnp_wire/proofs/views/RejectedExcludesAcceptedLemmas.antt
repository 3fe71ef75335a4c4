-- What a view rejects it does not accept. It rejects it with one error, which is not the one of the traversal
-- limit, and what it shows is of a kind that it accepts.
use Rattle.std.proofs.Common.{◌≡◌, ◌≢◌, ◌⊎◌, ℕ, List, Some, None, Result, Ok, Err, IsOk, IfErr, MatchResult, inl, inr, refl, sym, ◌∙◌, subst}
use Rattle.std.specs.Result.{IsErrAnd}
use Rattle.capnp_frame.specs.declared.error.Error.{Error}
use Rattle.capnp_frame.specs.declared.error.ErrorKind.{ErrorKind}
use Rattle.capnp_frame.specs.declared.error.ErrorKind.TheVariants.{ReadLimitExceeded, WrongPointerKind, TextNotTerminated}
use Rattle.capnp_layout.specs.Prelude.{Form, null, struct, numbers, pointers, structs, Shape, PointsTo, NoWord, no_segment, past_segment, BadLandingPad, no_landing_pad, far_again, landing_pad_capability, no_tag, not_far, no_content, far_tag, capability_tag, SizeError, struct_outside, list_outside, structs_outside, odd_tag, many_elements, PointerError, no_word, capability, bad_landing_pad, too_deep, no_start, misfits}
use Rattle.capnp_wire.specs.Prelude.{Pointer, Struct, IsViewOf, Denotes, nowhere, at_place, ObjectError, IsInvalidPointer, MeetsLimit, Reads, Accepts, FormError, ViewError, IsData, IsText, HasData, IsStruct, TakesNumbers, TakesText, TakesStruct, NumbersFormError, TextFormError, StructFormError}
use Rattle.capnp_layout.specs.declared.place.Place.{Place}
use Rattle.capnp_layout.proofs.objects.UniqueObjectLemmas.{one_object}
use Rattle.capnp_layout.proofs.pointers.ErrorExcludesObjectLemmas.{invalid_pointer_has_no_object}
use Rattle.capnp_layout.proofs.pointers.UniquePointerErrorLemmas.{one_error}

-- a pointer stands for only one thing
pub one_denoted : (p : Pointer) (s t : Shape) → Denotes p s → Denotes p t → s ≡ t
one_denoted p s t (nowhere e) (nowhere f) = refl
one_denoted p s t (nowhere e) (at_place f _ _) = cc
one_denoted p s t (at_place e _ _) (nowhere f) = cc
one_denoted p s t (at_place {place = a} e o _) (at_place {place = b} f q _) =
    let same : a ≡ b = cc in one_object p.message b s t (subst (λ x. PointsTo p.message x s) same o) q

-- without a limit, a pointer can't be read only where it stands for nothing
error_denotes_nothing : (p : Pointer) (place : Place) (kind : ErrorKind) (s : Shape) → p.place ≡ Some place → PointerError p.message place p.nesting kind → Denotes p s → ⊥
error_denotes_nothing p place kind s e invalid (nowhere f) = cc
error_denotes_nothing p place kind s e invalid (at_place {place = b} f o deep) =
    let same : b ≡ place = cc in
    invalid_pointer_has_no_object p.message place p.nesting kind s invalid (subst (λ x. PointsTo p.message x s) same o) deep

invalid_pointer_denotes_nothing : (p : Pointer) (kind : ErrorKind) (s : Shape) → IsInvalidPointer p kind → Denotes p s → ⊥
invalid_pointer_denotes_nothing p kind s invalid_pointer there = error_denotes_nothing p invalid_pointer.0 kind s invalid_pointer.1 invalid_pointer.2 there

unreadable_denotes_nothing : (p : Pointer) (kind : ErrorKind) (s : Shape) → ObjectError p kind → p.limit ≡ None → Denotes p s → ⊥
unreadable_denotes_nothing p kind s (inl invalid_pointer) free there = invalid_pointer_denotes_nothing p kind s invalid_pointer there
unreadable_denotes_nothing p kind s (inr met) free there = met.1 free

-- and never because of the limit
no_word_unlimited : (m : List (List ℕ)) (place : Place) (kind : ErrorKind) → NoWord m place kind → kind ≢ ReadLimitExceeded
no_word_unlimited m place kind (no_segment e) = λ is. cc
no_word_unlimited m place kind (past_segment e f) = λ is. cc

bad_landing_pad_unlimited : (m : List (List ℕ)) (word : ℕ) (kind : ErrorKind) → BadLandingPad m word kind → kind ≢ ReadLimitExceeded
bad_landing_pad_unlimited m word kind (no_landing_pad none) = no_word_unlimited m _ kind none
bad_landing_pad_unlimited m word kind (far_again _ _ _) = λ is. cc
bad_landing_pad_unlimited m word kind (landing_pad_capability _ _ _) = λ is. cc
bad_landing_pad_unlimited m word kind (no_tag _ _ _) = λ is. cc
bad_landing_pad_unlimited m word kind (not_far _ _ _ _) = λ is. cc
bad_landing_pad_unlimited m word kind (no_content _ _ _ _ _) = λ is. cc
bad_landing_pad_unlimited m word kind (far_tag _ _ _ _ _ _) = λ is. cc
bad_landing_pad_unlimited m word kind (capability_tag _ _ _ _ _ _) = λ is. cc

misfits_unlimited : (words : List ℕ) (start pointer : ℕ) (kind : ErrorKind) → SizeError words start pointer kind → kind ≢ ReadLimitExceeded
misfits_unlimited words start pointer kind (struct_outside _ _) = λ is. cc
misfits_unlimited words start pointer kind (list_outside _ _ _) = λ is. cc
misfits_unlimited words start pointer kind (structs_outside _ _ _) = λ is. cc
misfits_unlimited words start pointer kind (odd_tag _ _ _ _ _) = λ is. cc
misfits_unlimited words start pointer kind (many_elements _ _ _ _ _ _) = λ is. cc

pub pointer_error_unlimited : (m : List (List ℕ)) (place : Place) (nesting : ℕ) (kind : ErrorKind) → PointerError m place nesting kind → kind ≢ ReadLimitExceeded
pointer_error_unlimited m place nesting kind (no_word none) = no_word_unlimited m place kind none
pointer_error_unlimited m place nesting kind (capability _ _) = λ is. cc
pointer_error_unlimited m place nesting kind (bad_landing_pad _ _ bad) = bad_landing_pad_unlimited m _ kind bad
pointer_error_unlimited m place nesting kind (too_deep _ _) = λ is. cc
pointer_error_unlimited m place nesting kind (no_start _ _ _) = λ is. cc
pointer_error_unlimited m place nesting kind (misfits _ _ _ _ misfit) = misfits_unlimited _ _ _ kind misfit

unreadable_unlimited : (p : Pointer) (kind : ErrorKind) → ObjectError p kind → p.limit ≡ None → kind ≢ ReadLimitExceeded
unreadable_unlimited p kind (inl invalid_pointer) free = pointer_error_unlimited p.message invalid_pointer.0 p.nesting kind invalid_pointer.2
unreadable_unlimited p kind (inr met) free = absurd (met.1 free)

-- What a view rejects it does not accept; it rejects it with one error, which is not the limit's.
pub record Decides (takes : Form → Type 0) (form_error : Form → ErrorKind → Type 0) : Type 0 where
  pub apart : (form : Form) (kind : ErrorKind) → form_error form kind → takes form → ⊥
  pub once : (form : Form) (kind other : ErrorKind) → form_error form kind → form_error form other → kind ≡ other
  pub unlimited : (form : Form) (kind : ErrorKind) → form_error form kind → kind ≢ ReadLimitExceeded

-- A view that decides by the form of an object, for a pointer.
module _ {V : Type 0} (p : Pointer) (takes : Form → Type 0) (form_error : Form → ErrorKind → Type 0) (shows : V → Type 0) (decides : Decides takes form_error)
    (shown : (v : V) → shows v → Accepts p takes) where
  apart_there : (kind : ErrorKind) → FormError p form_error kind → Accepts p takes → ⊥
  apart_there kind form_errors taken =
      let same : form_errors.0 ≡ taken.0 = one_denoted p form_errors.0 taken.0 form_errors.1 taken.1 in
      decides.apart taken.0.form kind (subst (λ (x : Shape). form_error x.form kind) same form_errors.2) taken.2

  error_not_taken : (kind : ErrorKind) → ViewError p form_error kind → p.limit ≡ None → Accepts p takes → ⊥
  error_not_taken kind (inl unreadable) free taken = unreadable_denotes_nothing p kind taken.0 unreadable free taken.1
  error_not_taken kind (inr form_errors) free taken = apart_there kind form_errors taken

  error_unlimited : (kind : ErrorKind) → ViewError p form_error kind → p.limit ≡ None → kind ≢ ReadLimitExceeded
  error_unlimited kind (inl unreadable) free = unreadable_unlimited p kind unreadable free
  error_unlimited kind (inr form_errors) free = decides.unlimited form_errors.0.form kind form_errors.2

  found : (r : Result V Error) → MatchResult r shows (λ e. ViewError p form_error e.kind) → p.limit ≡ None → Accepts p takes → IsOk r
  found (Ok v) returned free taken = refl
  found (Err e) returned free taken = absurd (error_not_taken e.kind returned free taken)

  unlimited : (r : Result V Error) → MatchResult r shows (λ e. ViewError p form_error e.kind) → p.limit ≡ None → IfErr r (λ e. e.kind ≢ ReadLimitExceeded)
  unlimited (Ok v) returned free = tt
  unlimited (Err e) returned free = error_unlimited e.kind returned free

  -- where no object is there, with exactly that error
  error_of_invalid_pointer : (kind other : ErrorKind) → IsInvalidPointer p kind → ViewError p form_error other → other ≡ kind
  error_of_invalid_pointer kind other invalid_pointer (inl (inl another)) =
      let there : p.place ≡ Some another.0 = another.1 in
      let it : p.place ≡ Some invalid_pointer.0 = invalid_pointer.1 in
      let same : another.0 ≡ invalid_pointer.0 = cc in
      one_error p.message invalid_pointer.0 p.nesting other kind (subst (λ (x : Place). PointerError p.message x p.nesting other) same another.2) invalid_pointer.2
  error_of_invalid_pointer kind other invalid_pointer (inl (inr met)) = absurd (invalid_pointer_denotes_nothing p kind met.0.0 invalid_pointer met.0.1)
  error_of_invalid_pointer kind other invalid_pointer (inr form_errors) = absurd (invalid_pointer_denotes_nothing p kind form_errors.0 invalid_pointer form_errors.1)

  exact : (r : Result V Error) → MatchResult r shows (λ e. ViewError p form_error e.kind) → (kind : ErrorKind) → IsInvalidPointer p kind → IsErrAnd r (λ e. e.kind ≡ kind)
  exact (Ok v) returned kind invalid_pointer = let taken = shown v returned in absurd (invalid_pointer_denotes_nothing p kind taken.0 invalid_pointer taken.1)
  exact (Err e) returned kind invalid_pointer = error_of_invalid_pointer kind e.kind invalid_pointer returned

  -- what a view rejects, with the error of the view, or with the limit's
  error_of_form : (kind other : ErrorKind) → FormError p form_error kind → ViewError p form_error other → (other ≡ kind) ⊎ MeetsLimit p other
  error_of_form kind other form_errors (inl (inl invalid_pointer)) = absurd (invalid_pointer_denotes_nothing p other form_errors.0 invalid_pointer form_errors.1)
  error_of_form kind other form_errors (inl (inr met)) = inr met
  error_of_form kind other form_errors (inr another) =
      let same : another.0 ≡ form_errors.0 = one_denoted p another.0 form_errors.0 another.1 form_errors.1 in
      inl (decides.once form_errors.0.form other kind (subst (λ (x : Shape). form_error x.form other) same another.2) form_errors.2)

  form_error_is_err : (r : Result V Error) → MatchResult r shows (λ e. ViewError p form_error e.kind) → (kind : ErrorKind) → FormError p form_error kind
      → IsErrAnd r (λ e. (e.kind ≡ kind) ⊎ MeetsLimit p e.kind)
  form_error_is_err (Ok v) returned kind form_errors = absurd (apart_there kind form_errors (shown v returned))
  form_error_is_err (Err e) returned kind form_errors = error_of_form kind e.kind form_errors returned

  pub is_view_of : (r : Result V Error) → MatchResult r shows (λ e. ViewError p form_error e.kind)
      → IsViewOf p shows (Accepts p takes) (ViewError p form_error) (FormError p form_error) r
  is_view_of r returned = record {
    returned = returned;
    found = found r returned;
    unlimited = unlimited r returned;
    exact = λ kind invalid_pointer untaken. exact r returned kind invalid_pointer;
    form_errors = form_error_is_err r returned;
  }

pub wrong_kind_unlimited : (kind : ErrorKind) → kind ≡ WrongPointerKind → kind ≢ ReadLimitExceeded
wrong_kind_unlimited kind is = λ limit. cc

pub wrong_kind_once : (kind other : ErrorKind) → kind ≡ WrongPointerKind → other ≡ WrongPointerKind → kind ≡ other
wrong_kind_once kind other is other_is = is ∙ sym other_is

pub numbers_decide : (code : ℕ) → Decides (TakesNumbers code) (NumbersFormError code)
numbers_decide code = record {
  apart = λ form kind form_errors. form_errors.0;
  once = λ form kind other p q. wrong_kind_once kind other p.1 q.1;
  unlimited = λ form kind form_errors. wrong_kind_unlimited kind form_errors.1;
}

pub struct_decides : Decides TakesStruct StructFormError
struct_decides = record {
  apart = λ form kind form_errors. form_errors.0;
  once = λ form kind other p q. wrong_kind_once kind other p.1 q.1;
  unlimited = λ form kind form_errors. wrong_kind_unlimited kind form_errors.1;
}

text_is_bytes : (form : Form) → TakesText form → TakesNumbers 2 form
text_is_bytes null t = tt
text_is_bytes (struct words) t = t
text_is_bytes (numbers code values) t = t.0
text_is_bytes pointers t = t
text_is_bytes (structs d p elements) t = t

text_apart : (form : Form) (kind : ErrorKind) → TextFormError form kind → TakesText form → ⊥
text_apart form kind (inl other) t = other.0 (text_is_bytes form t)
text_apart form kind (inr no_end) t = no_end.1 t

text_unlimited : (form : Form) (kind : ErrorKind) → TextFormError form kind → kind ≢ ReadLimitExceeded
text_unlimited form kind (inl other) = wrong_kind_unlimited kind other.1
text_unlimited form kind (inr no_end) = let is : kind ≡ TextNotTerminated = no_end.2 in λ limit. cc

text_once : (form : Form) (kind other : ErrorKind) → TextFormError form kind → TextFormError form other → kind ≡ other
text_once form kind other (inl p) (inl q) = wrong_kind_once kind other p.1 q.1
text_once form kind other (inl p) (inr q) = absurd (p.0 q.0)
text_once form kind other (inr p) (inl q) = absurd (q.0 p.0)
text_once form kind other (inr p) (inr q) = p.2 ∙ sym q.2

pub text_decides : Decides TakesText TextFormError
text_decides = record { apart = text_apart; once = text_once; unlimited = text_unlimited }

-- what a view shows is of a form that it accepts
data_taken : (form : Form) (bytes : List ℕ) → IsData form bytes → TakesNumbers 2 form
data_taken null bytes t = tt
data_taken (struct words) bytes t = t
data_taken (numbers code values) bytes t = t.0
data_taken pointers bytes t = t
data_taken (structs d p elements) bytes t = t

text_taken : (form : Form) (bytes : List ℕ) → IsText form bytes → TakesText form
text_taken null bytes t = tt
text_taken (struct words) bytes t = t
text_taken (numbers code values) bytes t = (t.0, (bytes, t.1))
text_taken pointers bytes t = t
text_taken (structs d p elements) bytes t = t

struct_taken : (form : Form) (words : List ℕ) → HasData form words → TakesStruct form
struct_taken null words t = tt
struct_taken (struct there) words t = tt
struct_taken (numbers code values) words t = t
struct_taken pointers words t = t
struct_taken (structs d p elements) words t = t

pub data_accepted : (p : Pointer) (bytes : List ℕ) → Reads p (λ form. IsData form bytes) → Accepts p (TakesNumbers 2)
data_accepted p bytes read = (read.0, read.1, data_taken read.0.form bytes read.2.0)

pub text_accepted : (p : Pointer) (bytes : List ℕ) → Reads p (λ form. IsText form bytes) → Accepts p TakesText
text_accepted p bytes read = (read.0, read.1, text_taken read.0.form bytes read.2.0)

pub struct_accepted : (p : Pointer) (fields : Struct) → IsStruct p fields → Accepts p TakesStruct
struct_accepted p fields read = (read.shown.0, read.shown.1, struct_taken read.shown.0.form fields.words read.shown.2.0)
