-- A message has a canonical form, or there is one error that says why not.
use Rattle.std.proofs.Common.{◌≡◌, ◌⊎◌, ℕ, Bool, List, [], ◌∷◌, Option, Some, Result, Ok, Err, IsOk, IfErr, MatchResult, inl, inr, refl, sym, ◌∙◌, ap, subst, arith}
use Rattle.std.specs.Result.{IsErrAnd}
use Rattle.capnp_frame.specs.declared.error.Error.{Error}
use Rattle.capnp_frame.specs.declared.error.ErrorKind.{ErrorKind}
use Rattle.capnp_frame.specs.declared.error.ErrorKind.TheVariants.{OutOfMemory}
use Rattle.capnp_layout.specs.Prelude.{Trees, total_words, trim, root, NoWord, WalkError, no_word, at_pointer}
use Rattle.capnp_wire.specs.Prelude.{Pointer, TreeAt, IsCanonicalForm}
use Rattle.capnp_wire.proofs.walks.WalkErrorExcludesTreesLemmas.{walk_error_has_no_trees}
use Rattle.capnp_wire.proofs.views.UniqueValueTreeAndMeasureLemmas.{one_of_pointer}
use Rattle.capnp_message.specs.Canonical.{HasForm, CanonicalFormError, ReturnsForm}
use Rattle.capnp_message.specs.Seen.{ReadMessage, root_of}

-- where there is no word for the root, that is the error
root_form_error : (p : Pointer) (kind : ErrorKind) → p.place ≡ Some root → NoWord p.message root kind → CanonicalFormError p kind
root_form_error p kind there none = inl (root, there, at_pointer (no_word none))

-- a message with such an error has no form
error_or_has : (p : Pointer) (kind : ErrorKind) → CanonicalFormError p kind → HasForm p → ⊥
error_or_has p kind (inl walk_error) has = (one_of_pointer p).apart kind has.trees walk_error has.tree_is
error_or_has p kind (inr many) has =
    let same : total_words (trim has.trees) ≡ total_words (trim many.0) =
    ap (λ (t : Trees). total_words (trim t)) ((one_of_pointer p).same_tree has.trees many.0 has.tree_is many.1) in
    omega (arith, has.few, many.2, same)

-- there is only one such error
form_error_once : (p : Pointer) (a b : ErrorKind) → CanonicalFormError p a → CanonicalFormError p b → a ≡ b
form_error_once p a b (inl x) (inl y) = (one_of_pointer p).same_error a b x y
form_error_once p a b (inl x) (inr y) = absurd ((one_of_pointer p).apart a y.0 x y.1)
form_error_once p a b (inr x) (inl y) = absurd ((one_of_pointer p).apart b x.0 y x.1)
form_error_once p a b (inr x) (inr y) = x.3 ∙ sym y.3

-- where there is a form, a call fails only when out of memory
form_found : {T : Type 0} (p : Pointer) (r : Result T Error) (P : T → Type 0)
    → MatchResult r P (λ error. CanonicalFormError p error.kind ⊎ (error.kind ≡ OutOfMemory)) → HasForm p → IfErr r (λ error. error.kind ≡ OutOfMemory)
form_found p (Ok x) P returned has = tt
form_found p (Err e) P (inl form_error) has = absurd (error_or_has p e.kind form_error has)
form_found p (Err e) P (inr full) has = full

-- where there is a tree, no walk stops
pub tree_found : {limit : Option ℕ} (m : List (List ℕ)) (nesting : ℕ) (r : Result Bool Error) → IfErr r (λ error. WalkError m (root ∷ []) nesting limit error.kind)
    → (trees : Trees) → TreeAt m root nesting limit trees → IsOk r
tree_found m nesting (Ok x) walk_error trees t = refl
tree_found {limit} m nesting (Err e) walk_error trees t = absurd (walk_error_has_no_trees m (root ∷ []) nesting t.traversed limit e.kind trees walk_error t.are_at t.shallow t.within)

-- where there is no word for the root, there is no form
pub no_root_no_form : {S T : Type 0} (segments : S → List (List ℕ)) (inside message : ReadMessage S) (words : T → List ℕ) {error : Error} (r : Result T Error) → inside ≡ message
    → IsErrAnd r (λ y. y ≡ error) → NoWord (root_of segments inside).message root error.kind → ReturnsForm (root_of segments message) words r
no_root_no_form segments inside message words (Ok form) same is none = absurd is
no_root_no_form {S} segments inside message words {error} (Err e) same is none =
    let p : Pointer = root_of segments message in
    let own : NoWord p.message root e.kind =
    subst (λ (x : Error). NoWord p.message root x.kind) (sym is) (subst (λ (x : ReadMessage S). NoWord (root_of segments x).message root error.kind) same none) in
    let form_error : CanonicalFormError p e.kind = root_form_error p e.kind refl own in
    record { returned = inl form_error; found = λ has. absurd (error_or_has p e.kind form_error has); exact = λ kind other. form_error_once p e.kind kind form_error other }

-- the form of the root's pointer is the form of the message
pub root_form : {S T : Type 0} (segments : S → List (List ℕ)) (inside message : ReadMessage S) (pointer : Pointer) (words : T → List ℕ) (r : Result T Error) → inside ≡ message
    → pointer ≡ root_of segments inside
    → MatchResult r (λ form. IsCanonicalForm pointer (words form)) (λ error. CanonicalFormError pointer error.kind ⊎ (error.kind ≡ OutOfMemory))
    → ((kind : ErrorKind) → CanonicalFormError pointer kind → IsErrAnd r (λ error. error.kind ≡ kind)) → ReturnsForm (root_of segments message) words r
root_form segments inside message pointer words r same is returned exact =
    subst (λ (p : Pointer). ReturnsForm p words r) (is ∙ ap (root_of segments) same)
    (record { returned = returned; found = form_found pointer r (λ form. IsCanonicalForm pointer (words form)) returned; exact = exact })
