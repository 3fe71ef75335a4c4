-- What the private functions of a packer keep of their sink, and the private functions of an unpacker of
-- their source.
use Rattle.std.specs.Prelude.{◌≡◌, ℕ, List, [], Option, Some, Result, IfOk, OnErr, IfErr, IfSome, IfNone}
use Rattle.capnp_frame.specs.declared.error.Error.{Error}
use Rattle.capnp_frame.specs.declared.error.ErrorKind.{ErrorKind}
use Rattle.capnp_frame.specs.declared.error.ErrorKind.TheVariants.{DeviceFailed}
use Rattle.capnp_frame.specs.declared.io.Read.{Ghosts as Source}
use Rattle.capnp_frame.specs.declared.io.Write.{Ghosts as Sink}
use Rattle.capnp_frame.specs.Prelude.{Asked, FailsOr, Adds, AnyChunkError, Grows, IfKnown, Fails}
use Rattle.capnp_pack.specs.Steps.{LeavesParts}

-- of some bytes for which `remains` holds, the first parts are handed on, and of the next part what the sink
-- leaves of it
abbrev pub LeavesOf : {S : Type 0} → Sink S → S → S → (List ℕ → Type 0) → Type 0
LeavesOf sink old new remains = (encoding : List ℕ) × remains encoding
    × IfKnown (sink.written old) (sink.written new) (Adds (LeavesParts sink.appends sink.leaves encoding))

-- A call that hands bytes on to a sink. `sink` is what is seen of the sink (the members of the trait Write),
-- `old` and `new` are the sink before the call and after it. `remains` holds of the bytes that are to be
-- handed on, and `hands` of what is returned.
pub record HandsOn {S X : Type 0} (sink : Sink S) (old new : S) (remains : List ℕ → Type 0) (hands : X → Type 0) (result : Result X Error) : Type 0 where
  pub handed : IfOk result hands
  -- where the call fails, only the start of these bytes is handed on, without a gap
  pub left : OnErr result (LeavesOf sink old new remains)
  -- the call fails with the device's failure, or with a kind of the sink's for some chunk
  pub errors : FailsOr result (AnyChunkError sink.refuses)
  -- `DeviceFailed` is returned only where the device failed
  pub failed : IfErr result (λ error. error.kind ≡ DeviceFailed → Fails (sink.failures old) (sink.failures new))
  -- what was written before stays at the front
  pub grows : Grows sink.written sink.failures sink.same old new

-- A call that takes bytes from a source. `source` is what is seen of the source (the members of the trait
-- Read), and `finds` holds of what is returned. `refuses` holds of the kinds that the call may fail with in
-- addition to the device's.
pub record TakesFrom {S X : Type 0} (source : Source S) (old new : S) (finds : X → Type 0) (refuses : ErrorKind → Type 0)
    (result : Result X Error) : Type 0 where
  pub found : IfOk result finds
  pub errors : FailsOr result refuses
  pub asked : Asked source.unread source.failures source.same old new result

-- A call that takes what comes next from a source and returns None exactly at the end, where it
-- fails only with the device's failure.
pub record TakesNext {S X : Type 0} (source : Source S) (old new : S) (finds : X → Type 0) (refuses : ErrorKind → Type 0)
    (result : Result (Option X) Error) : Type 0 where
  pub found : IfOk result (λ found. IfSome found finds)
  pub none : IfOk result (λ found. IfNone found (IfSome (source.unread old) (λ raw. raw ≡ [])))
  pub errors : FailsOr result refuses
  pub at_end : IfErr result (λ error. source.unread old ≡ Some [] → error.kind ≡ DeviceFailed)
  pub asked : Asked source.unread source.failures source.same old new result
