-- Which error a call returns.
use Rattle.std.specs.Prelude.{◌≡◌, ◌⊎◌, ◌↔◌, Result, IfErr}
use Rattle.std.specs.Result.{IsErrAnd}
use Rattle.capnp_frame.specs.declared.error.Error.{Error}
use Rattle.capnp_frame.specs.declared.error.ErrorKind.{ErrorKind}
use Rattle.capnp_frame.specs.declared.error.ErrorKind.TheVariants.{OutOfMemory, MessageSizeOverflow}

-- the call returns this error
abbrev pub FailsWith : {X : Type 0} → Result X Error → ErrorKind → Type 0
FailsWith result kind = IsErrAnd result (λ error. error.kind ≡ kind)

-- A call that takes memory for something of a computed size: it fails with `OutOfMemory`, or with
-- `MessageSizeOverflow` exactly where the size overflows.
pub record MayOverflow {X : Type 0} (overflows : Type 0) (result : Result X Error) : Type 0 where
  pub overflow : FailsWith result MessageSizeOverflow ↔ overflows
  pub kinds : IfErr result (λ error. (error.kind ≡ OutOfMemory) ⊎ (error.kind ≡ MessageSizeOverflow))
