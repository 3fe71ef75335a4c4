-- A measure returns one number of words, or fails with one kind. Of fields this is the kind of the first value, or
-- where that is measured, of the values after it.
use Rattle.std.proofs.Common.{◌≡◌, Bool, false, Result, Ok, Err, inl, inr, subst}
use Rattle.std.specs.Result.{IsErrAnd}
use Rattle.capnp_frame.specs.declared.error.Error.{Error}
use Rattle.capnp_frame.specs.declared.error.ErrorKind.{ErrorKind}
use Rattle.capnp_layout.specs.Prelude.{Trees}
use Rattle.capnp_wire.specs.Prelude.{WordsError, HasPart}
use Rattle.capnp_wire.specs.declared.traits.TreeWords.{TreeWords}
use Rattle.capnp_wire.proofs.views.ValueAsPartTwoMeasuresLemmas.{part_words}
use Rattle.capnp_values.specs.Fields.{FieldsError}

pub ok_not_err : {X : Type 0} (r : Result X Error) (x : X) (P : Error → Type 0) → r ≡ Ok x → IsErrAnd r P → ⊥
ok_not_err {X = X} r x P is e = subst (λ (a : Result X Error). IsErrAnd a P) is e

pub err_kind : {X : Type 0} (r : Result X Error) (error : Error) (kind : ErrorKind) → r ≡ Err error → IsErrAnd r (λ e. e.kind ≡ kind) → error.kind ≡ kind
err_kind {X = X} r error kind is e = subst (λ (a : Result X Error). IsErrAnd a (λ e. e.kind ≡ kind)) is e

pub same_words : (r : Result TreeWords Error) (x y : TreeWords) → r ≡ Ok x → r ≡ Ok y → x ≡ y
same_words r x y a b = cc

-- the first value fails, or the values after it
pub error_first : (h : Trees → Type 0) (r rr : ErrorKind → Type 0) (c : Bool) (returned : Result TreeWords Error) (error : Error) (kind : ErrorKind) → returned ≡ Err error
    → ((words : TreeWords) → HasPart h c words → returned ≡ Ok words) → ((k : ErrorKind) → WordsError h r false k → IsErrAnd returned (λ e. e.kind ≡ k)) → FieldsError h r rr kind
    → error.kind ≡ kind
error_first h r rr c returned error kind is found exact (inl words_error) = err_kind returned error kind is (exact kind words_error)
error_first h r rr c returned error kind is found exact (inr others) = let ok = found _ (part_words h c others.0 others.1) in absurd (cc)

pub error_rest : (h : Trees → Type 0) (r rr : ErrorKind → Type 0) (returned : Result TreeWords Error) (words : TreeWords) (kind : ErrorKind) → returned ≡ Ok words
    → ((k : ErrorKind) → WordsError h r false k → IsErrAnd returned (λ e. e.kind ≡ k)) → FieldsError h r rr kind → rr kind
error_rest h r rr returned words kind is exact (inl words_error) = absurd (ok_not_err returned words (λ e. e.kind ≡ kind) is (exact kind words_error))
error_rest h r rr returned words kind is exact (inr others) = others.2
