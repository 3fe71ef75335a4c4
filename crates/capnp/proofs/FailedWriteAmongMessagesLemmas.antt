-- Where one of several messages fails to be written: with which error, and what it leaves after the messages
-- before it.
use Rattle.std.proofs.Common.{◌≡◌, ◌⊎◌, inl, inr, ℕ, ◌<◌, Option, Some, None, List, [], ◌∷◌, ◌++◌, length, map, take, sym, ap, ◌∙◌, subst, arith, append_assoc, length-append, zero, suc}
use Rattle.std.proofs.Math.ListN.{get_or}
use Rattle.std.proofs.lemmas.List.{nil_from_length}
use Rattle.capnp_frame.specs.declared.error.ErrorKind.{ErrorKind}
use Rattle.capnp_frame.specs.declared.error.ErrorKind.TheVariants.{DeviceFailed}
use Rattle.capnp_frame.specs.Prelude.{Appending, Leaving, Declining, ChunksError, Adds, IfKnown, chunks}
use Rattle.capnp_frame.proofs.sources.JoinedRequestPartsLemmas.{IfKnown-join}
use Rattle.capnp.specs.declared.streams.Format.{Format}
use Rattle.capnp.specs.Prelude.{ErrorsAs, LeavesMessage, AppendsEach, FailsAtMessage, FailsAmong, WriterError, OneOfError}

-- the one that isn't written is one of them
pub message_error_at : {S : Type 0} (segments : S → List (List ℕ)) (refuses : Declining) (xs : List S) (index : ℕ) (x : S) (kind : ErrorKind) → index < length xs
    → x ≡ get_or xs index x → WriterError refuses (segments x) kind → OneOfError refuses (map segments xs) kind
message_error_at segments refuses [] index x kind here is errors = absurd (omega arith)
message_error_at segments refuses (y ∷ ys) zero x kind here is errors = inl (subst (λ z. WriterError refuses (segments z) kind) is errors)
message_error_at segments refuses (y ∷ ys) (suc index) x kind here is errors = inr (message_error_at segments refuses ys index x kind (omega arith) is errors)

-- what it leaves follows the messages before it
FailsAmong-at : {S : Type 0} (segments : S → List (List ℕ)) (Writes : List (List ℕ) → List ℕ → Type 0) (FailsOne : List (List ℕ) → ErrorKind → List ℕ → Type 0)
    (xs : List S) (index : ℕ) (x : S) (kind : ErrorKind) (encoding more : List ℕ) → index < length xs → x ≡ get_or xs index x
    → AppendsEach Writes (map segments (take index xs)) encoding → FailsOne (segments x) kind more → FailsAmong Writes FailsOne (map segments xs) kind (encoding ++ more)
FailsAmong-at segments Writes FailsOne [] index x kind encoding more here is all fails = absurd (omega arith)
FailsAmong-at segments Writes FailsOne (y ∷ ys) zero x kind encoding more here is all fails =
    inl (subst (λ z. FailsOne (segments z) kind (encoding ++ more)) is (subst (λ l. FailsOne (segments x) kind (l ++ more)) (sym all) fails))
FailsAmong-at segments Writes FailsOne (y ∷ ys) (suc index) x kind encoding more here is (first, others, this, all, e) fails = inr (
  first,
  others ++ more,
  this,
  FailsAmong-at segments Writes FailsOne ys index x kind others more (omega arith) is all fails,
  ap (λ l. l ++ more) e ∙ append_assoc first others more,
)

pub fails_among : {S : Type 0} (segments : S → List (List ℕ)) (Writes : List (List ℕ) → List ℕ → Type 0) (FailsOne : List (List ℕ) → ErrorKind → List ℕ → Type 0)
    (xs : List S) (index : ℕ) (x : S) (kind : ErrorKind) (old mid new : Option (List ℕ)) → index < length xs → x ≡ get_or xs index x
    → IfKnown old mid (Adds (AppendsEach Writes (map segments (take index xs)))) → IfKnown mid new (Adds (FailsOne (segments x) kind))
    → IfKnown old new (Adds (FailsAmong Writes FailsOne (map segments xs) kind))
fails_among segments Writes FailsOne xs index x kind old mid new here is before next = IfKnown-join old mid new
    (λ a b c (encoding, all, e) (more, fails, f). (
      encoding ++ more,
      FailsAmong-at segments Writes FailsOne xs index x kind encoding more here is all fails,
      f ∙ ap (λ l. l ++ more) e ∙ append_assoc a encoding more,
    ))
    before next

-- what its writer's failure says of one message
nothing_added : (old new encoding : List ℕ) → new ≡ old ++ encoding → Some new ≡ Some old → encoding ≡ []
nothing_added old new encoding added same =
    let kept : new ≡ old = cc in
    nil_from_length encoding (omega (arith, ap length kept, ap length added, length-append old encoding))

fails_known : (format : Format) (appends : Appending) (leaves : Leaving) (refuses : Declining) (message : List (List ℕ)) (kind : ErrorKind)
    (old new : Option (List ℕ)) → WriterError (ErrorsAs format refuses) message kind → IfKnown old new (Adds (LeavesMessage format appends leaves message))
    → (kind ≡ DeviceFailed) ⊎ ChunksError (ErrorsAs format refuses) (chunks message) kind ⊎ (new ≡ old)
    → IfKnown old new (Adds (FailsAtMessage format appends leaves refuses message kind))
fails_known format appends leaves refuses message kind None new errors left untouched = tt
fails_known format appends leaves refuses message kind (Some old) None errors left untouched = absurd left
fails_known format appends leaves refuses message kind (Some old) (Some new) errors (encoding, of_it, added) untouched = (
  encoding,
  record {
    errors = errors;
    left = of_it;
    untouched = elim untouched [
      | inl device ↦ inl device
      | inr (inl chunk_errors) ↦ inr (inl chunk_errors)
      | inr (inr same) ↦ inr (inr (nothing_added old new encoding added same))
    ];
  },
  added,
)

pub fails_at_message : {S : Type 0} (written : S → Option (List ℕ)) (format : Format) (appends : Appending) (leaves : Leaving) (refuses : Declining)
    (message : List (List ℕ)) (kind : ErrorKind) (old new : S) → WriterError (ErrorsAs format refuses) message kind
    → IfKnown (written old) (written new) (Adds (LeavesMessage format appends leaves message))
    → (kind ≡ DeviceFailed) ⊎ ChunksError (ErrorsAs format refuses) (chunks message) kind ⊎ (new ≡ old)
    → IfKnown (written old) (written new) (Adds (FailsAtMessage format appends leaves refuses message kind))
fails_at_message written format appends leaves refuses message kind old new errors left untouched =
    fails_known format appends leaves refuses message kind (written old) (written new) errors left (elim untouched [
      | inl device ↦ inl device
      | inr (inl chunk_errors) ↦ inr (inl chunk_errors)
      | inr (inr same) ↦ inr (inr (ap written same))
    ])
