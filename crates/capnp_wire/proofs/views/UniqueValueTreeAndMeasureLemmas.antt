-- A value is one tree, or fails with one error, and so its measure is determined.
use Rattle.std.proofs.Common.{◌≡◌, ℕ, Bool, List, [], ◌∷◌, Option, Some, None, MatchOption, Result, Ok, Err, MatchResult, inl, inr, sym, ◌∙◌, ap, subst, arith}
use Rattle.std.specs.Result.{IsErrAnd}
use Rattle.capnp_frame.specs.declared.error.Error.{Error}
use Rattle.capnp_frame.specs.declared.error.ErrorKind.{ErrorKind}
use Rattle.capnp_layout.specs.Prelude.{null, struct, Trees, none, tree, total_words, output, WalkError, too_large}
use Rattle.capnp_wire.specs.Prelude.{Pointer, Struct, TreeAt, HasWords, WordsError, PointsToTree, WalkErrorFrom, IsTreeOf, WalkErrorInside}
use Rattle.capnp_layout.specs.declared.place.Place.{Place}
use Rattle.capnp_layout.proofs.objects.UniqueObjectLemmas.{one_tree}
use Rattle.capnp_wire.proofs.walks.WalkErrorExcludesTreesLemmas.{walk_error_has_no_trees, one_walk_error}
use Rattle.capnp_wire.proofs.forms.TargetWrittenInCanonicalFormLemmas.{from_tree}

pub record IsOne (has_tree : Trees → Type 0) (fails : ErrorKind → Type 0) : Type 0 where
  pub same_tree : (a b : Trees) → has_tree a → has_tree b → a ≡ b
  pub same_error : (a b : ErrorKind) → fails a → fails b → a ≡ b
  pub apart : (kind : ErrorKind) (trees : Trees) → fails kind → has_tree trees → ⊥

has_or_error : (h : Trees → Type 0) (r : ErrorKind → Type 0) → IsOne h r → (c : Bool) (words : ℕ) (kind : ErrorKind) → HasWords h c words → WordsError h r c kind → ⊥
has_or_error h r one c words kind w (inl errors) = one.apart kind w.trees errors w.tree_is
has_or_error h r one c words kind w (inr many) =
    let same : total_words (output c w.trees) ≡ total_words (output c many.0) = ap (λ (t : Trees). total_words (output c t)) (one.same_tree w.trees many.0 w.tree_is many.1) in
    omega (arith, w.words_are, w.few, many.2, same)

one_measure : (h : Trees → Type 0) (r : ErrorKind → Type 0) → IsOne h r → (c : Bool) (words others : ℕ) → HasWords h c words → HasWords h c others → words ≡ others
one_measure h r one c words others w o =
    w.words_are ∙ ap (λ (t : Trees). total_words (output c t)) (one.same_tree w.trees o.trees w.tree_is o.tree_is) ∙ sym o.words_are

one_words_error : (h : Trees → Type 0) (r : ErrorKind → Type 0) → IsOne h r → (c : Bool) (a b : ErrorKind) → WordsError h r c a → WordsError h r c b → a ≡ b
one_words_error h r one c a b (inl x) (inl y) = one.same_error a b x y
one_words_error h r one c a b (inl x) (inr y) = absurd (one.apart a y.0 x y.1)
one_words_error h r one c a b (inr x) (inl y) = absurd (one.apart b x.0 y x.1)
one_words_error h r one c a b (inr x) (inr y) =
    x.3 ∙ ap (λ (t : Trees). too_large c (total_words (output c t))) (one.same_tree x.0 y.0 x.1 y.1) ∙ sym y.3

-- a value that has no such number of words fails with exactly this error
pub measured_exactly : (h : Trees → Type 0) (r : ErrorKind → Type 0) → IsOne h r → (c : Bool) (returned : Result ℕ Error)
    → MatchResult returned (λ words. HasWords h c words) (λ error. WordsError h r c error.kind)
    → (kind : ErrorKind) → WordsError h r c kind → IsErrAnd returned (λ error. error.kind ≡ kind)
measured_exactly h r one c (Ok words) m kind words_error = absurd (has_or_error h r one c words kind m words_error)
measured_exactly h r one c (Err error) m kind words_error = one_words_error h r one c error.kind kind m words_error

-- and for a value that has one, exactly that number is returned
pub measured_found : (h : Trees → Type 0) (r : ErrorKind → Type 0) → IsOne h r → (c : Bool) (returned : Result ℕ Error)
    → MatchResult returned (λ words. HasWords h c words) (λ error. WordsError h r c error.kind)
    → (words : ℕ) → HasWords h c words → returned ≡ Ok words
measured_found h r one c (Ok others) m words w = ap (λ (n : ℕ). Ok n) (one_measure h r one c others words m w)
measured_found h r one c (Err error) m words w = absurd (has_or_error h r one c words error.kind w m)

-- the tree that a pointer points to
pub one_there : (o : Option Place) (m : List (List ℕ)) (nesting : ℕ) (limit : Option ℕ) (a b : Trees) → MatchOption o (a ≡ tree null none none) (λ place. TreeAt m place nesting limit a)
    → MatchOption o (b ≡ tree null none none) (λ place. TreeAt m place nesting limit b) → a ≡ b
one_there None m nesting limit a b x y = x ∙ sym y
one_there (Some place) m nesting limit a b x y = (one_tree m (place ∷ []) a b x.traversed y.traversed x.are_at y.are_at).0

one_way : (p : Pointer) (a b : ErrorKind) → WalkErrorFrom p a → WalkErrorFrom p b → a ≡ b
one_way p a b x y =
    let there = x.1 in
    let there_too = y.1 in
    let same : y.0 ≡ x.0 = cc in
    one_walk_error p.message (x.0 ∷ []) p.nesting p.limit a b x.2 (subst (λ (place : Place). WalkError p.message (place ∷ []) p.nesting p.limit b) same y.2)

error_or_points : (p : Pointer) (kind : ErrorKind) (trees : Trees) → WalkErrorFrom p kind → PointsToTree p trees → ⊥
error_or_points p kind trees walk_error points_to =
    let t = from_tree p walk_error.0 trees walk_error.1 points_to in
    walk_error_has_no_trees p.message (walk_error.0 ∷ []) p.nesting t.traversed p.limit kind trees walk_error.2 t.are_at t.shallow t.within

pub one_of_pointer : (p : Pointer) → IsOne (PointsToTree p) (WalkErrorFrom p)
one_of_pointer p = record {
  same_tree = one_there p.place p.message p.nesting p.limit;
  same_error = one_way p;
  apart = error_or_points p;
}

-- the tree of a struct
pub one_of_struct : (fields : Struct) → IsOne (IsTreeOf fields) (WalkErrorInside fields)
one_of_struct fields = record {
  same_tree = λ a b x y.
      x.whole ∙ ap (λ (t : Trees). tree (struct fields.words) t none) (one_tree fields.message fields.children x.children y.children x.traversed y.traversed x.are_at y.are_at).0 ∙ sym y.whole;
  same_error = one_walk_error fields.message fields.children fields.nesting fields.limit;
  apart = λ kind trees walk_error t. walk_error_has_no_trees fields.message fields.children fields.nesting t.traversed fields.limit kind t.children walk_error t.are_at t.shallow t.within;
}
