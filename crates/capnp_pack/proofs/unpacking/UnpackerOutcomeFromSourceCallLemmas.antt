-- How the outcome of an unpacker's call that takes bytes of a source, alone or after one that succeeded, becomes
-- the outcome of the whole.
use Rattle.std.proofs.Common.{◌≡◌, ◌⊎◌, inr, ℕ, List, ◌∷◌, Option, Some, None, Result, Ok, Err, sym, ◌∙◌, subst, []}
use Rattle.std.specs.Result.{IsErrAnd}
use Rattle.capnp_frame.specs.declared.error.Error.{Error}
use Rattle.capnp_frame.specs.declared.error.ErrorKind.{ErrorKind}
use Rattle.capnp_frame.specs.declared.error.ErrorKind.TheVariants.{DeviceFailed}
use Rattle.capnp_frame.specs.declared.io.Read.{Ghosts as Source}
use Rattle.capnp_frame.specs.Prelude.{Asked, IsPreorder, IfKnown, Advances, Fails}
use Rattle.capnp_frame.proofs.sources.JoinedCallsAdvanceSourceLemmas.{Asked-ok, Asked-err}
use Rattle.capnp_pack.specs.Prelude.{TakesFrom, TakesNext}

-- a failure that is passed on
pub takes_passed : {S X Y : Type 0} (source : Source S) (old new : S) (finds : Y → Type 0) (refuses : ErrorKind → Type 0) (e : Error) (r : Result Y Error)
    → IsErrAnd r (λ y. y ≡ e) → (e.kind ≡ DeviceFailed) ⊎ refuses e.kind → Asked {X = X} source.unread source.failures source.same old new (Err e)
    → TakesFrom source old new finds refuses r
takes_passed source old new finds refuses e (Ok y) is errors reported = absurd is
takes_passed source old new finds refuses e (Err y) is errors reported = record {
  found = tt;
  errors = subst (λ (o : Error). (o.kind ≡ DeviceFailed) ⊎ refuses o.kind) (sym is) errors;
  asked = record {
    failed = subst (λ (o : Error). o.kind ≡ DeviceFailed → Fails (source.failures old) (source.failures new)) (sym is) reported.failed;
    advances = reported.advances;
  };
}

-- the same after a call that succeeded
pub takes_err : {S X Y : Type 0} (source : Source S) (keeps : IsPreorder source.same) (a b c : S) (finds : Y → Type 0) (refuses : ErrorKind → Type 0)
    (e : Error) (r : Result Y Error) → IsErrAnd r (λ y. y ≡ e) → (e.kind ≡ DeviceFailed) ⊎ refuses e.kind
    → Advances source.unread source.failures source.same a b → Asked {X = X} source.unread source.failures source.same b c (Err e)
    → TakesFrom source a c finds refuses r
takes_err source keeps a b c finds refuses e (Ok y) is errors first second = absurd is
takes_err source keeps a b c finds refuses e (Err y) is errors first second = record {
  found = tt;
  errors = subst (λ (o : Error). (o.kind ≡ DeviceFailed) ⊎ refuses o.kind) (sym is) errors;
  asked = Asked-err (keeps.transitive a b c) is first second;
}

-- a failure of the call's own
pub takes_own : {S X : Type 0} (source : Source S) (old new : S) (finds : X → Type 0) (refuses : ErrorKind → Type 0) (e : Error) (kind : ErrorKind)
    → e.kind ≡ kind → (kind ≡ DeviceFailed → ⊥) → refuses kind → Advances source.unread source.failures source.same old new
    → TakesFrom source old new finds refuses (Err e)
takes_own source old new finds refuses e kind is other errors advances = record {
  found = tt;
  errors = inr (subst refuses (sym is) errors);
  asked = record { failed = λ device. absurd (other (sym is ∙ device)); advances = advances };
}

-- two calls that succeeded
pub takes_ok : {S X : Type 0} (source : Source S) (keeps : IsPreorder source.same) (a b c : S) (finds : X → Type 0) (refuses : ErrorKind → Type 0) (x : X)
    → finds x → Advances source.unread source.failures source.same a b → Advances source.unread source.failures source.same b c
    → TakesFrom source a c finds refuses (Ok x)
takes_ok source keeps a b c finds refuses x found first second =
    record { found = found; errors = tt; asked = Asked-ok (keeps.transitive a b c) first second }

-- where a byte was taken, the source was not at its end
not_at_end : (byte : ℕ) (a b : Option (List ℕ)) → IfKnown a b (λ raw left. raw ≡ byte ∷ left) → a ≡ Some [] → ⊥
not_at_end byte None b taken at_end = cc
not_at_end byte (Some raw) None taken at_end = absurd taken
not_at_end byte (Some raw) (Some left) taken at_end = cc

-- a call that fails, or succeeds, after a byte was taken
pub next_err : {S X Y : Type 0} (source : Source S) (keeps : IsPreorder source.same) (a b c : S) (finds : Y → Type 0) (refuses : ErrorKind → Type 0)
    (e : Error) (r : Result (Option Y) Error) (byte : ℕ) → IfKnown (source.unread a) (source.unread b) (λ raw left. raw ≡ byte ∷ left)
    → IsErrAnd r (λ y. y ≡ e) → (e.kind ≡ DeviceFailed) ⊎ refuses e.kind → Advances source.unread source.failures source.same a b
    → Asked {X = X} source.unread source.failures source.same b c (Err e) → TakesNext source a c finds refuses r
next_err source keeps a b c finds refuses e (Ok y) byte taken is errors first second = absurd is
next_err source keeps a b c finds refuses e (Err y) byte taken is errors first second = record {
  found = tt;
  none = tt;
  errors = subst (λ (o : Error). (o.kind ≡ DeviceFailed) ⊎ refuses o.kind) (sym is) errors;
  at_end = λ end. absurd (not_at_end byte (source.unread a) (source.unread b) taken end);
  asked = Asked-err (keeps.transitive a b c) is first second;
}

pub next_ok : {S X : Type 0} (source : Source S) (keeps : IsPreorder source.same) (a b c : S) (finds : X → Type 0) (refuses : ErrorKind → Type 0) (x : X)
    → finds x → Advances source.unread source.failures source.same a b → Advances source.unread source.failures source.same b c
    → TakesNext source a c finds refuses (Ok (Some x))
next_ok source keeps a b c finds refuses x found first second =
    record { found = found; none = tt; errors = tt; at_end = tt; asked = Asked-ok (keeps.transitive a b c) first second }
