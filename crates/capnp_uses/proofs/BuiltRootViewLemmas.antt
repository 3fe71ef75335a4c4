-- What a view of the root of a message that is built shows.
use Rattle.std.proofs.Common.{◌≡◌, ◌⊎◌, inl, inr, ℕ, ◌<◌, List, [], ◌∷◌, ◌++◌, map, None, Some, Result, Ok, Err, IfOk, IfErr, MatchResult, refl, sym, subst, arith}
use Rattle.std.proofs.lemmas.List.{append_cancel_right}
use Rattle.capnp_frame.specs.declared.error.Error.{Error}
use Rattle.capnp_frame.specs.declared.error.ErrorKind.{ErrorKind}
use Rattle.capnp_wire.specs.Prelude.{Form, null, struct, numbers, none, Shape, PointsTo, nothing, word_at, at, root, Root, NoWord, PointerError, Pointer, Denotes, nowhere, at_place, Shows, Accepts, Reads, ViewError, MeetsLimit, IsText, TextFormError, StructFormError, Within, unlimited_root}
use Rattle.capnp_layout.proofs.objects.UniqueObjectLemmas.{one_object}
use Rattle.capnp_wire.proofs.views.RejectedExcludesAcceptedLemmas.{one_denoted}
use Rattle.capnp_layout.proofs.pointers.ErrorExcludesObjectLemmas.{word_of_object, no_word_there, invalid_pointer_has_no_object}
use Rattle.capnp_wire.proofs.forms.ObjectTrimmedByLastWordsLemmas.{null_is_zero}
use Rattle.capnp_wire.proofs.pointers.NullWhereWordIsZeroLemmas.{null_by_word}
use Rattle.capnp_build.specs.Prelude.{Space, used_of, message}
use Rattle.capnp_uses.specs.Roots.{HasRootForm}

-- the object at the root is what the root is read as
pub root_denotes : (spaces : List Space) (shape : Shape) → PointsTo (message spaces) root shape → Denotes (unlimited_root (map used_of spaces)) shape
root_denotes [] shape points = absurd (word_of_object [] root shape refl points)
root_denotes (space ∷ spaces) shape points = at_place refl points (λ some. omega arith)

-- so a view that takes its form accepts it
pub root_accepts : (spaces : List Space) (form : Form) (takes : Form → Type 0) → HasRootForm spaces form → takes form → Accepts (unlimited_root (map used_of spaces)) takes
root_accepts spaces form takes (traversed, at {shape = shape} points inside others) taken = (shape, root_denotes spaces shape points, taken)

pub root_is_shown : (spaces : List Space) (form : Form) (fact : Shape → Type 0) → HasRootForm spaces form → Shows (unlimited_root (map used_of spaces)) fact
    → (shape : Shape) × (shape.form ≡ form) × fact shape
root_is_shown spaces form fact (traversed, at {shape = shape} points inside others) shown =
    let same : shown.0 ≡ shape = one_denoted (unlimited_root (map used_of spaces)) shown.0 shape shown.1 (root_denotes spaces shape points) in
    (shape, refl, subst fact same shown.2)

pub root_is_read : (spaces : List Space) (form : Form) (fact : Form → Type 0) → HasRootForm spaces form → Reads (unlimited_root (map used_of spaces)) fact → fact form
root_is_read spaces form fact is_at read =
    let shown = root_is_shown spaces form (λ shape. fact shape.form × Within None shape.traversed) is_at read in
    subst fact shown.1 shown.2.0

-- a pointer at a root denotes the object that is there
denotes_root : (pointer : Pointer) (shape other : Shape) → pointer.place ≡ Some root → Denotes pointer other → PointsTo pointer.message root shape → other ≡ shape
denotes_root pointer shape other is (nowhere absent) points = cc
denotes_root pointer shape other is (at_place {place = place} there is_at deep) points =
    let same : place ≡ root = cc in
    one_object pointer.message root other shape (subst (λ at. PointsTo pointer.message at other) same is_at) points

pub read_at_root : (pointer : Pointer) (form : Form) (fact : Shape → Type 0) → pointer.place ≡ Some root → (traversed : ℕ) × Root pointer.message form none traversed
    → Shows pointer fact → (shape : Shape) × (shape.form ≡ form) × fact shape
read_at_root pointer form fact is (traversed, at {shape = shape} points inside others) (other, denotes, holds) =
    (shape, refl, subst fact (denotes_root pointer shape other is denotes points) holds)

pub root_text_is : {X : Type 0} (fails : Error → Type 0) (bytes_of : X → List ℕ) (pointer : Pointer) (bytes : List ℕ) (r : Result X Error) → pointer.place ≡ Some root
    → (traversed : ℕ) × Root pointer.message (numbers 2 (bytes ++ 0 ∷ [])) none traversed
    → MatchResult r (λ view. Reads pointer (λ form. IsText form (bytes_of view))) fails → IfOk r (λ view. bytes_of view ≡ bytes)
root_text_is fails bytes_of pointer bytes (Err e) is is_at returned = tt
root_text_is fails bytes_of pointer bytes (Ok view) is is_at returned =
    let shown = read_at_root pointer (numbers 2 (bytes ++ 0 ∷ [])) _ is is_at returned in
    let text : IsText (numbers 2 (bytes ++ 0 ∷ [])) (bytes_of view) = subst (λ form. IsText form (bytes_of view)) shown.1 shown.2.0 in
    sym (append_cancel_right bytes (bytes_of view) (0 ∷ []) text.1)

-- a null root is read as null
null_at : (m : List (List ℕ)) (form : Form) (traversed : ℕ) → form ≡ null → Root m form none traversed → word_at m root ≡ Some 0
null_at m form traversed is (at {shape = shape} points inside others) = (null_is_zero m root shape points).0 is

pub null_is_read : (spaces : List Space) → HasRootForm spaces null → Denotes (unlimited_root (map used_of spaces)) nothing
null_is_read [] (traversed, is_at) =
    let word : word_at [] root ≡ Some 0 = null_at [] null traversed refl is_at in
    cc
null_is_read (space ∷ spaces) (traversed, is_at) =
    null_by_word (unlimited_root (map used_of (space ∷ spaces))) root 0 refl (null_at (message (space ∷ spaces)) null traversed refl is_at) refl

-- A view that accepts what is at the root fails only at the traversal limit.
pub root_meets_limit : (pointer : Pointer) (form : Form) (form_error : Form → ErrorKind → Type 0) (kind : ErrorKind) → pointer.place ≡ Some root
    → (traversed : ℕ) × Root pointer.message form none traversed → 0 < pointer.nesting → (form_error form kind → ⊥) → NoWord pointer.message root kind ⊎ ViewError pointer form_error kind
    → MeetsLimit pointer kind
root_meets_limit pointer form form_error kind is (traversed, at {shape = shape} points inside others) deep takes (inl absent) =
    absurd (word_of_object pointer.message root shape (no_word_there pointer.message root kind absent) points)
root_meets_limit pointer form form_error kind is (traversed, at {shape = shape} points inside others) deep takes (inr (inl (inl (place, there, invalid)))) =
    let same : place ≡ root = cc in
    absurd (invalid_pointer_has_no_object pointer.message root pointer.nesting kind shape (subst (λ at. PointerError pointer.message at pointer.nesting kind) same invalid) points (λ some. deep))
root_meets_limit pointer form form_error kind is is_at deep takes (inr (inl (inr limit))) = limit
root_meets_limit pointer form form_error kind is (traversed, at {shape = shape} points inside others) deep takes (inr (inr (other, denotes, form_errors))) =
    absurd (takes (subst (λ s. form_error s.form kind) (denotes_root pointer shape other is denotes points) form_errors))

text_is_taken : (bytes : List ℕ) (kind : ErrorKind) → TextFormError (numbers 2 (bytes ++ 0 ∷ [])) kind → ⊥
text_is_taken bytes kind (inl (other, is)) = other refl
text_is_taken bytes kind (inr (takes, cut, is)) = cut (refl, (bytes, refl))

pub text_meets_limit : {X : Type 0} (shows : X → Type 0) (pointer : Pointer) (bytes : List ℕ) (r : Result X Error) → pointer.place ≡ Some root
    → (traversed : ℕ) × Root pointer.message (numbers 2 (bytes ++ 0 ∷ [])) none traversed → 0 < pointer.nesting
    → MatchResult r shows (λ e. NoWord pointer.message root e.kind ⊎ ViewError pointer TextFormError e.kind) → IfErr r (λ e. MeetsLimit pointer e.kind)
text_meets_limit shows pointer bytes (Ok view) is is_at deep returned = tt
text_meets_limit shows pointer bytes (Err e) is is_at deep returned =
    root_meets_limit pointer (numbers 2 (bytes ++ 0 ∷ [])) TextFormError e.kind is is_at deep (text_is_taken bytes e.kind) returned

pub struct_is_taken : (words : List ℕ) (kind : ErrorKind) → StructFormError (struct words) kind → ⊥
struct_is_taken words kind (other, is) = other tt
