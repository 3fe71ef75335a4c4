-- A pointer is null exactly where its word is there and is zero.
use Rattle.std.proofs.Common.{◌≡◌, ℕ, nat_eq, true, Some, ap, subst, ◌∙◌}
use Rattle.std.proofs.lemmas.Bool.{eq-eqb, eqb-true}
use Rattle.capnp_frame.specs.declared.error.ErrorKind.{ErrorKind}
use Rattle.capnp_layout.specs.Prelude.{word_at, PointsTo, nothing, is_null as null_there, NoWord}
use Rattle.capnp_wire.specs.Prelude.{Pointer, Denotes, nowhere, at_place}
use Rattle.capnp_layout.specs.declared.place.Place.{Place}
use Rattle.capnp_layout.proofs.pointers.ErrorExcludesObjectLemmas.{no_word_there, word_of_object, word_of_null}

pub null_by_word : (p : Pointer) (place : Place) (word : ℕ) → p.place ≡ Some place → word_at p.message place ≡ Some word → nat_eq word 0 ≡ true → Denotes p nothing
null_by_word p place word e f is = at_place e (null_there (f ∙ ap Some (eqb-true word 0 is))) (λ not. cc)

pub word_by_null : (p : Pointer) (place : Place) (word : ℕ) → p.place ≡ Some place → word_at p.message place ≡ Some word → Denotes p nothing → nat_eq word 0 ≡ true
word_by_null p place word e f (nowhere g) = cc
word_by_null p place word e f (at_place {place = other} g object deep) =
    let same : other ≡ place = cc in
    let none : word_at p.message place ≡ Some 0 = subst (λ x. word_at p.message x ≡ Some 0) same (word_of_null p.message other object) in
    let zero_is : word ≡ 0 = cc in
    eq-eqb word 0 zero_is

pub no_null : (p : Pointer) (place : Place) (kind : ErrorKind) → p.place ≡ Some place → NoWord p.message place kind → Denotes p nothing → ⊥
no_null p place kind e none (nowhere g) = cc
no_null p place kind e none (at_place {place = other} g object deep) =
    let same : other ≡ place = cc in
    word_of_object p.message place nothing (no_word_there p.message place kind none) (subst (λ x. PointsTo p.message x nothing) same object)
