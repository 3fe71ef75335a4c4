-- Where a pointer is read as a list of numbers of any width: null shows none, numbers show themselves, and another
-- object is rejected.
use Rattle.std.proofs.Common.{◌≡◌, ℕ, List, [], refl, sym, subst}
use Rattle.capnp_frame.specs.declared.error.ErrorKind.{ErrorKind}
use Rattle.capnp_frame.specs.declared.error.ErrorKind.TheVariants.{WrongPointerKind}
use Rattle.capnp_frame.specs.declared.message.segments.ReaderSegments.{Ghosts}
use Rattle.capnp_wire.specs.Prelude.{Form, null, struct, numbers, pointers, structs, nothing, Pointer, Denotes, Accepts, FormError, Reads, IsObjectView}
use Rattle.capnp_wire.specs.declared.any_object.numbers.Numbers.{Numbers as NumbersReader}
use Rattle.capnp_wire.specs.declared.any_object.reader.Reader.{Reader}
use Rattle.capnp_wire.specs.declared.any_object.reader.Reader.TheVariants.{Null, Struct, Structs, Pointers, Numbers}
use Rattle.capnp_layout.proofs.trees.TraversalLimitCountLemmas.{within_none}
use Rattle.capnp_wire.proofs.views.RejectedExcludesAcceptedLemmas.{Decides, wrong_kind_once, wrong_kind_unlimited}
use Rattle.capnp_uses.specs.AnyNumbers.{IsAnyNumbers, TakesAnyNumbers, AnyNumbersFormError}

pub any_numbers_decide : Decides TakesAnyNumbers AnyNumbersFormError
any_numbers_decide = record {
  apart = λ form kind form_errors. form_errors.0;
  once = λ form kind other p q. wrong_kind_once kind other p.1 q.1;
  unlimited = λ form kind form_errors. wrong_kind_unlimited kind form_errors.1;
}

taken : (form : Form) (values : List ℕ) → IsAnyNumbers form values → TakesAnyNumbers form
taken null values t = tt
taken (struct words) values t = t
taken (numbers code there) values t = tt
taken pointers values t = t
taken (structs d p elements) values t = t

pub any_numbers_accepted : (p : Pointer) (values : List ℕ) → Reads p (λ form. IsAnyNumbers form values) → Accepts p TakesAnyNumbers
any_numbers_accepted p values read = (read.0, read.1, taken read.0.form values read.2.0)

-- null is read as no numbers, a list of numbers as its numbers
pub no_numbers_read : (p : Pointer) → Denotes p nothing → Reads p (λ form. IsAnyNumbers form [])
no_numbers_read p denotes = (nothing, denotes, (refl, within_none p.limit))

pub any_numbers_read : (p : Pointer) (code : ℕ) (values : List ℕ) → Reads p (λ form. form ≡ numbers code values) → Reads p (λ form. IsAnyNumbers form values)
any_numbers_read p code values read = (read.0, read.1, (subst (λ (form : Form). IsAnyNumbers form values) (sym read.2.0) refl, read.2.1))

-- an object of another kind is rejected
pub others_form_error : {S : Type 0} {ghosts : Ghosts S} (segments : S → List (List ℕ)) (p : Pointer) (view : Reader S ghosts) (kind : ErrorKind) → IsObjectView segments p view
    → (view ≡ Null → ⊥) → ((list : NumbersReader) → view ≡ Numbers list → ⊥) → kind ≡ WrongPointerKind → FormError p AnyNumbersFormError kind
others_form_error segments p Null kind shown no_null no_numbers is = absurd (no_null refl)
others_form_error segments p (Struct view) kind shown no_null no_numbers is =
    (shown.kind.0, shown.kind.1, subst (λ (form : Form). AnyNumbersFormError form kind) (sym shown.kind.2) ((λ t. t), is))
others_form_error segments p (Structs view) kind shown no_null no_numbers is =
    (shown.kind.0, shown.kind.1, subst (λ (form : Form). AnyNumbersFormError form kind) (sym shown.kind.2.1) ((λ t. t), is))
others_form_error segments p (Pointers view) kind shown no_null no_numbers is =
    (shown.kind.0, shown.kind.1, subst (λ (form : Form). AnyNumbersFormError form kind) (sym shown.kind.2) ((λ t. t), is))
others_form_error segments p (Numbers list) kind shown no_null no_numbers is = absurd (no_numbers list refl)
