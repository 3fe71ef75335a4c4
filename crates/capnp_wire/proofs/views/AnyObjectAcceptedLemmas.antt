-- The view of an object of any kind accepts each object that was entered, as of the kind that it has, and rejects
-- none.
use Rattle.std.proofs.Common.{◌≡◌, ℕ, List, Result, Ok, Err, MatchResult, inl, sym, subst}
use Rattle.capnp_frame.specs.declared.error.Error.{Error}
use Rattle.capnp_frame.specs.declared.error.ErrorKind.{ErrorKind}
use Rattle.capnp_frame.specs.declared.message.segments.ReaderSegments.{Ghosts}
use Rattle.capnp_layout.specs.Prelude.{words_of, Form, shape_of}
use Rattle.capnp_wire.specs.Prelude.{Pointer, IsViewOf, Accepts, ViewError, ObjectError, IsEntered, IsObjectView, TakesAll}
use Rattle.capnp_wire.specs.declared.any_object.reader.Reader.{Reader}
use Rattle.capnp_layout.specs.declared.object.Body.{Body}
use Rattle.capnp_layout.specs.declared.object.Object.{Object as ReadObject}
use Rattle.capnp_wire.proofs.views.EnteredObjectShownLemmas.{entered_shows}
use Rattle.capnp_wire.proofs.views.RejectedExcludesAcceptedLemmas.{Decides, is_view_of}

-- the kind of an object that was entered, by its body
pub entered_kind : (p : Pointer) (object : ReadObject) (body : Body) (kind : Form → Type 0) → IsEntered p object → object.body ≡ body
    → kind (shape_of (words_of object.segment.now) object.start body).form → Accepts p kind
entered_kind p object body kind entered is holds =
    entered_shows p object kind entered (subst (λ (b : Body). kind (shape_of (words_of object.segment.now) object.start b).form) (sym is) holds)

pub entered_form : (p : Pointer) (object : ReadObject) (body : Body) (form : Form) → IsEntered p object → object.body ≡ body
    → (shape_of (words_of object.segment.now) object.start body).form ≡ form → Accepts p (λ there. there ≡ form)
entered_form p object body form entered is form_is = entered_kind p object body (λ there. there ≡ form) entered is form_is

-- every object is accepted, and none is rejected
abbrev NoFormError : Form → ErrorKind → Type 0
NoFormError form kind = ⊥

all_decide : Decides TakesAll NoFormError
all_decide = record {
  apart = λ form kind form_errors. absurd form_errors;
  once = λ form kind other form_errors. absurd form_errors;
  unlimited = λ form kind form_errors. absurd form_errors;
}

module _ {S : Type 0} {ghosts : Ghosts S} (segments : S → List (List ℕ)) (p : Pointer) where
  taken : (view : Reader S ghosts) → IsObjectView segments p view → Accepts p TakesAll
  taken view shown = (shown.kind.0, shown.kind.1, tt)

  errors : (result : Result (Reader S ghosts) Error) → MatchResult result (IsObjectView segments p) (λ error. ObjectError p error.kind)
      → MatchResult result (IsObjectView segments p) (λ error. ViewError p NoFormError error.kind)
  errors (Ok view) returned = returned
  errors (Err error) returned = inl returned

  pub is_object_view : (result : Result (Reader S ghosts) Error) → MatchResult result (IsObjectView segments p) (λ error. ObjectError p error.kind)
      → IsViewOf p (IsObjectView segments p) (Accepts p TakesAll) (ObjectError p) (λ kind. ⊥) result
  is_object_view result returned =
      let view = is_view_of p TakesAll NoFormError (IsObjectView segments p) all_decide taken result (errors result returned) in record {
        returned = returned;
        found = view.found;
        unlimited = view.unlimited;
        exact = view.exact;
        form_errors = λ kind form_errors. absurd form_errors;
      }
