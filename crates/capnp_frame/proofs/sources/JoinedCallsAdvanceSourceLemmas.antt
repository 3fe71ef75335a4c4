-- Calls that ask a source, one after another: together they advance it as one call does, and only a device that
-- failed is blamed.
use Rattle.std.proofs.Common.{◌≡◌, ℕ, List, Option, Result, Ok, Err, IfErr, refl, sym, subst, arith}
use Rattle.std.specs.Result.{IsErrAnd}
use Rattle.capnp_frame.specs.declared.error.Error.{Error}
use Rattle.capnp_frame.specs.declared.error.ErrorKind.{ErrorKind}
use Rattle.capnp_frame.specs.declared.error.ErrorKind.TheVariants.{DeviceFailed}
use Rattle.capnp_frame.specs.Prelude.{Advances, Fails, Asked}
use Rattle.capnp_frame.proofs.sources.JoinedRequestPartsLemmas.{Advances-join, Fails-join}

-- a device whose count of failures stays 0 is never blamed
pub never_fails : (kind : ErrorKind) → (kind ≡ DeviceFailed → Fails 0 0) → kind ≡ DeviceFailed → ⊥
never_fails kind failed device = let count : Fails 0 0 = failed device in absurd (omega arith)

-- what `?` passes on holds of the error that it returns
pub passed_on : {Y : Type 0} {error : Error} (P : Error → Type 0) (result : Result Y Error) → IsErrAnd result (λ y. y ≡ error) → P error → IfErr result P
passed_on P (Ok y) is p = tt
passed_on P (Err e) is p = subst P (sym is) p

-- a call that succeeds, after one that did
pub Asked-ok : {S Y : Type 0} {unread : S → Option (List ℕ)} {failures : S → ℕ} {same : S → S → Type 0} {a b c : S}
    {returned : Y} → (same a b → same b c → same a c) → Advances unread failures same a b
    → Advances unread failures same b c → Asked unread failures same a c (Ok returned)
Asked-ok {a = a} {b = b} {c = c} join first second = record { failed = tt; advances = Advances-join a b c join first second }

-- a call that fails, after one that succeeded
pub Asked-err : {S X Y : Type 0} {unread : S → Option (List ℕ)} {failures : S → ℕ} {same : S → S → Type 0} {a b c : S}
    {error : Error} {result : Result Y Error} → (same a b → same b c → same a c) → IsErrAnd result (λ y. y ≡ error)
    → Advances unread failures same a b → Asked {X = X} unread failures same b c (Err error)
    → Asked unread failures same a c result
Asked-err {failures = failures} {a = a} {b = b} {c = c} {result = result} join is first second =
    record {
      failed = passed_on _ result is (λ device. Fails-join (failures a) (failures b) (failures c) first.counted
          (second.failed device));
      advances = Advances-join a b c join first second.advances;
    }

-- a call after one that succeeded
pub Asked-after : {S X : Type 0} {unread : S → Option (List ℕ)} {failures : S → ℕ} {same : S → S → Type 0} {a b c : S}
    (result : Result X Error) → (same a b → same b c → same a c) → Advances unread failures same a b
    → Asked unread failures same b c result → Asked unread failures same a c result
Asked-after {a = a} {b = b} {c = c} (Ok returned) join first second = record { failed = tt; advances = Advances-join a b c join first second.advances }
Asked-after (Err error) join first second = Asked-err join refl first second
