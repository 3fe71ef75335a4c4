-- The outcome of a reader of streams that allocates: the message that is found, or the first line of the error
-- table that holds.
use Rattle.std.proofs.Common.{◌≡◌, ℕ, Option, Some, None, IfSome, ◌⊎◌, inl, inr, List, [], Result, Ok, Err, IfErr}
use Rattle.std.specs.Prelude.{IfOk, IfNone}
use Rattle.std.specs.List.{AllByRecursion}
use Rattle.std.specs.Result.{IsErrAnd}
use Rattle.capnp_frame.specs.declared.io.Read.{Ghosts}
use Rattle.capnp_frame.specs.Prelude.{IsWholeWords, StreamRules, framed_rules, ReadsStream, AsksNext, IsWithin, Giving, Refusing, IsSource, IfKnown, MessageFound, StreamError}
use Rattle.capnp_frame.specs.declared.error.Error.{Error}
use Rattle.capnp_frame.specs.declared.error.ErrorKind.{ErrorKind}
use Rattle.capnp_frame.specs.declared.error.ErrorKind.TheVariants.{DeviceFailed, OutOfMemory}
use Rattle.capnp_frame.specs.declared.serialize.segment_table.Padding.{Padding}
use Rattle.capnp_frame.proofs.sources.JoinedRequestPartsLemmas.{IfKnown-weaker}
use Rattle.capnp_frame.proofs.errors.UniqueErrorLineLemmas.{Unless-after, StreamError-once, StreamError-apart}

pub accepted : (rule : Padding) (M : Type 0) {gives : Giving} {refuses : Refusing} (laws : IsSource gives refuses) {X : Type 0}
    (limit : Option ℕ) (old new : Option (List ℕ)) (r : Result X Error)
    → IfErr r (λ e. (e.kind ≡ DeviceFailed) ⊎ ((e.kind ≡ OutOfMemory) × M)
    ⊎ IfKnown old new (StreamError rule gives refuses limit None e.kind))
    → IfSome old (λ raw. (segments : List (List ℕ)) (rest : List ℕ) → MessageFound rule gives segments raw rest
    → IsWithin segments limit → IfErr r (λ e. (e.kind ≡ DeviceFailed) ⊎ (e.kind ≡ OutOfMemory)))
accepted rule M laws limit None new r errors = tt
accepted rule M laws limit (Some raw) new (Ok x) errors = λ segments rest sent within. tt
accepted rule M laws limit (Some raw) new (Err e) (inl p) = λ segments rest sent within. inl p
accepted rule M laws limit (Some raw) new (Err e) (inr (inl p)) = λ segments rest sent within. inr p.0
accepted rule M laws limit (Some raw) None (Err e) (inr (inr p)) = absurd p
accepted rule M laws limit (Some raw) (Some left) (Err e) (inr (inr p)) = λ segments rest sent within. absurd (StreamError-apart rule laws limit None e.kind raw left rest segments sent within (λ x. x) p)

-- each line is returned where it is the first that holds
pub exact : (rule : Padding) (M : Type 0) {gives : Giving} {refuses : Refusing} (laws : IsSource gives refuses) (limit : Option ℕ)
    (old new : Option (List ℕ)) (r : Result (Option (List (List ℕ))) Error)
    → IfOk r (λ found. IfSome found (λ segments. IfKnown old new (MessageFound rule gives segments)))
    → IfOk r (λ found. IfSome found (λ segments. IsWithin segments limit))
    → IfOk r (λ found. IfNone found (IfSome old (λ raw. raw ≡ [])))
    → IfErr r (λ e. (e.kind ≡ DeviceFailed) ⊎ ((e.kind ≡ OutOfMemory) × M)
    ⊎ IfKnown old new (StreamError rule gives refuses limit None e.kind))
    → IfSome old (λ raw. (kind : ErrorKind) (left : List ℕ) → StreamError rule gives refuses limit None kind raw left
    → IsErrAnd r (λ e. (e.kind ≡ DeviceFailed) ⊎ (e.kind ≡ OutOfMemory) ⊎ (e.kind ≡ kind)))
exact rule M laws limit None new r found within none errors = tt
exact rule M laws limit (Some raw) new (Ok None) found within none errors = λ kind left p. Unless-after (λ x. x) (λ x. absurd (x.0 none)) p
exact rule M laws limit (Some raw) None (Ok (Some segments)) found within none errors = absurd found
exact rule M laws limit (Some raw) (Some rest) (Ok (Some segments)) found within none errors = λ kind left p. StreamError-apart rule laws limit None kind raw left rest segments found within (λ x. x) p
exact rule M laws limit (Some raw) new (Err e) found within none (inl p) = λ kind left q. inl p
exact rule M laws limit (Some raw) new (Err e) found within none (inr (inl p)) = λ kind left q. inr (inl p.0)
exact rule M laws limit (Some raw) None (Err e) found within none (inr (inr p)) = absurd p
exact rule M laws limit (Some raw) (Some left) (Err e) found within none (inr (inr p)) = λ kind rest q. inr (inr (StreamError-once rule laws limit None e.kind kind raw left rest p q))

-- a reader that allocates so keeps all of it, once these are known of its call
pub reads_taking : {S : Type 0} (rule : Padding) (source : Ghosts S) (laws : IsSource source.gives source.refuses) (old new : S)
    (takes : Option ℕ → List ℕ → List ℕ → Type 0) (limit : Option ℕ) (r : Result (Option (List (List ℕ))) Error)
    → IfOk r (λ found. IfSome found (λ segments. IfKnown (source.unread old) (source.unread new) (MessageFound rule source.gives segments)))
    → IfOk r (λ found. IfSome found (λ segments. IsWithin segments limit))
    → IfOk r (λ found. IfSome found (AllByRecursion IsWholeWords))
    → AsksNext source old new rule (takes limit) (StreamError rule source.gives source.refuses limit None) r
    → ReadsStream source old new (record (framed_rules rule source.gives source.refuses) { takes_memory = takes }) limit r
reads_taking rule source laws old new takes limit r found within whole asks = record {
  found = found;
  within = within;
  whole = whole;
  none = asks.none;
  accepted = accepted rule _ laws limit _ _ r asks.errors;
  end = asks.end;
  errors = asks.errors;
  exact = exact rule _ laws limit _ _ r found within asks.none asks.errors;
  kinds = asks.kinds;
  failed = asks.asked.failed;
  advances = asks.asked.advances;
}

-- what is read with more memory at hand is read with less of it
pub reads_with_less : {S : Type 0} (source : Ghosts S) (old new : S) (rules : StreamRules) (takes also : Option ℕ → List ℕ → List ℕ → Type 0)
    (limit : Option ℕ) (r : Result (Option (List (List ℕ))) Error) → ((raw left : List ℕ) → takes limit raw left → also limit raw left)
    → ReadsStream source old new (record rules { takes_memory = takes }) limit r
    → ReadsStream source old new (record rules { takes_memory = also }) limit r
reads_with_less source old new rules takes also limit r wider reads = record {
  found = reads.found;
  within = reads.within;
  whole = reads.whole;
  none = reads.none;
  accepted = reads.accepted;
  end = reads.end;
  errors = taken r reads.errors;
  exact = reads.exact;
  kinds = reads.kinds;
  failed = reads.failed;
  advances = reads.advances;
}
  where
    taken : (tried : Result (Option (List (List ℕ))) Error) → IfErr tried (λ e. (e.kind ≡ DeviceFailed)
        ⊎ ((e.kind ≡ OutOfMemory) × IfKnown (source.unread old) (source.unread new) (takes limit))
        ⊎ IfKnown (source.unread old) (source.unread new) (rules.fails limit None e.kind))
        → IfErr tried (λ e. (e.kind ≡ DeviceFailed)
        ⊎ ((e.kind ≡ OutOfMemory) × IfKnown (source.unread old) (source.unread new) (also limit))
        ⊎ IfKnown (source.unread old) (source.unread new) (rules.fails limit None e.kind))
    taken (Ok found) errors = tt
    taken (Err e) (inl device) = inl device
    taken (Err e) (inr (inl (memory, here))) = inr (inl (memory, IfKnown-weaker _ _ wider here))
    taken (Err e) (inr (inr line)) = inr (inr line)
