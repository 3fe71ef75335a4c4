-- A root for which there is no word has exactly one error, and no view. Where there is a word, its view is the
-- view of the root's pointer.
use Rattle.std.proofs.Common.{◌≡◌, ◌≢◌, inl, inr, ℕ, List, Some, None, Result, Ok, Err, ap, sym, ◌∙◌, subst}
use Rattle.std.specs.Result.{IsErrAnd}
use Rattle.capnp_frame.specs.declared.error.Error.{Error}
use Rattle.capnp_frame.specs.declared.error.ErrorKind.{ErrorKind}
use Rattle.capnp_frame.specs.declared.error.ErrorKind.TheVariants.{ReadLimitExceeded}
use Rattle.capnp_layout.specs.Prelude.{word_at, root, NoWord, no_segment, past_segment, PointerError, no_word}
use Rattle.capnp_wire.specs.Prelude.{Pointer, IsViewOf}
use Rattle.capnp_layout.specs.declared.place.Place.{Place}
use Rattle.capnp_layout.proofs.pointers.UniquePointerErrorLemmas.{one_error}
use Rattle.capnp_layout.proofs.pointers.ErrorExcludesObjectLemmas.{no_word_there}
use Rattle.capnp_message.specs.Seen.{ReadMessage, root_of, HasRoot}
use Rattle.capnp_message.specs.Roots.{ReadsRoot}

-- for a word that is not there, there is only one error
pub no_word_once : (m : List (List ℕ)) (place : Place) (own kind : ErrorKind) → NoWord m place own → NoWord m place kind → own ≡ kind
no_word_once m place own kind p q = one_error m place 0 own kind (no_word p) (no_word q)

-- and it is the error of the pointer there
pub invalid_pointer_once : (m : List (List ℕ)) (own kind : ErrorKind) {nesting : ℕ} → NoWord m root own → (place : Place) × (Some root ≡ Some place) × PointerError m place nesting kind → own ≡ kind
invalid_pointer_once m own kind {nesting} none (place, is_at, invalid) =
    let same : root ≡ place = cc in
    one_error m root nesting own kind (no_word none) (subst (λ (p : Place). PointerError m p nesting kind) (sym same) invalid)

-- where the word is there, there is no error
pub word_apart : (m : List (List ℕ)) (word : ℕ) (kind : ErrorKind) → word_at m root ≡ Some word → NoWord m root kind → ⊥
word_apart m word kind is_at errors =
    let none : word_at m root ≡ None = no_word_there m root kind errors in
    let both : Some word ≡ None = sym is_at ∙ none in
    cc

no_limit : (m : List (List ℕ)) (kind : ErrorKind) → NoWord m root kind → kind ≢ ReadLimitExceeded
no_limit m kind (no_segment e) same = cc
no_limit m kind (past_segment there e) same = cc

-- where there is no word for the root, there is no view
pub root_nowhere : {S V : Type 0} (segments : S → List (List ℕ)) (inside message : ReadMessage S) (shows : Pointer → V → Type 0) (accepts : Pointer → Type 0)
    (fails form_error : Pointer → ErrorKind → Type 0) {error : Error} (r : Result V Error) → inside ≡ message → IsErrAnd r (λ y. y ≡ error)
    → NoWord (root_of segments inside).message root error.kind
    → (let pointer : Pointer = root_of segments message in ReadsRoot pointer (shows pointer) (accepts pointer) (fails pointer) (form_error pointer) r)
root_nowhere segments inside message shows accepts fails form_error (Ok view) same is none = absurd is
root_nowhere {S} segments inside message shows accepts fails form_error {error} (Err e) same is none =
    let m : List (List ℕ) = (root_of segments message).message in
    let own : NoWord m root e.kind =
    subst (λ (x : Error). NoWord m root x.kind) (sym is) (subst (λ (x : ReadMessage S). NoWord (root_of segments x).message root error.kind) same none) in
    record {
      returned = inl own;
      has_root = tt;
      found = λ unlimited has accepted. absurd (word_apart m has.0 e.kind has.1 own);
      unlimited = λ unlimited. no_limit m e.kind own;
      exact = λ kind invalid_pointer none. invalid_pointer_once m e.kind kind own invalid_pointer;
      form_errors = λ kind has form_error. absurd (word_apart m has.0 e.kind has.1 own);
      nowhere = λ kind nowhere. no_word_once m root e.kind kind own nowhere;
    }

-- a view of the root's pointer, where there is a word for it
read_root : {V : Type 0} (pointer : Pointer) (shows : V → Type 0) (accepts : Type 0) (fails form_error : ErrorKind → Type 0) (r : Result V Error) → HasRoot pointer
    → IsViewOf pointer shows accepts fails form_error r → ReadsRoot pointer shows accepts fails form_error r
read_root pointer shows accepts fails form_error (Ok view) has told = record {
  returned = told.returned;
  has_root = has;
  found = λ unlimited is_at accepted. told.found unlimited accepted;
  unlimited = told.unlimited;
  exact = told.exact;
  form_errors = λ kind is_at is. told.form_errors kind is;
  nowhere = λ kind nowhere. absurd (word_apart pointer.message has.0 kind has.1 nowhere);
}
read_root pointer shows accepts fails form_error (Err error) has told = record {
  returned = inr told.returned;
  has_root = tt;
  found = λ unlimited is_at accepted. told.found unlimited accepted;
  unlimited = told.unlimited;
  exact = told.exact;
  form_errors = λ kind is_at is. told.form_errors kind is;
  nowhere = λ kind nowhere. absurd (word_apart pointer.message has.0 kind has.1 nowhere);
}

pub root_read : {S V : Type 0} (segments : S → List (List ℕ)) (inside message : ReadMessage S) (pointer : Pointer) (shows : Pointer → V → Type 0) (accepts : Pointer → Type 0)
    (fails form_error : Pointer → ErrorKind → Type 0) (r : Result V Error) → inside ≡ message → pointer ≡ root_of segments inside → HasRoot (root_of segments inside)
    → IsViewOf pointer (shows pointer) (accepts pointer) (fails pointer) (form_error pointer) r
    → (let last : Pointer = root_of segments message in ReadsRoot last (shows last) (accepts last) (fails last) (form_error last) r)
root_read {S} segments inside message pointer shows accepts fails form_error r same is has told =
    let last : Pointer = root_of segments message in
    read_root last (shows last) (accepts last) (fails last) (form_error last) r (subst (λ (x : ReadMessage S). HasRoot (root_of segments x)) same has)
    (subst (λ (p : Pointer). IsViewOf p (shows p) (accepts p) (fails p) (form_error p) r) (is ∙ ap (root_of segments) same) told)
