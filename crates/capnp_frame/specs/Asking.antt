-- What each call that asks a source keeps of it, in addition to what it returns (the private functions of a
-- reader).
use Rattle.std.specs.Prelude.{◌≡◌, ◌⊎◌, ℕ, List, Option, Result, IfErr}
use Rattle.capnp_frame.specs.declared.error.Error.{Error}
use Rattle.capnp_frame.specs.declared.error.ErrorKind.{ErrorKind}
use Rattle.capnp_frame.specs.declared.error.ErrorKind.TheVariants.{DeviceFailed}
use Rattle.capnp_frame.specs.Source.{Fails, Advances}

-- an error is the device's, or of a kind for which P holds
abbrev pub FailsOr : {X : Type 0} → Result X Error → (ErrorKind → Type 0) → Type 0
FailsOr result P = IfErr result (λ error. (error.kind ≡ DeviceFailed) ⊎ P error.kind)

-- A call that asks a source: it returns `DeviceFailed` only where the device failed, and the source
-- moves on.
pub record Asked {S X : Type 0} (unread : S → Option (List ℕ)) (failures : S → ℕ) (same : S → S → Type 0) (old new : S) (result : Result X Error) : Type 0 where
  pub failed : IfErr result (λ error. error.kind ≡ DeviceFailed → Fails (failures old) (failures new))
  pub advances : Advances unread failures same old new
