-- What callers return of devices whose bytes are known, in a format, with zero padding and within a limit of
-- words.
use Rattle.std.specs.Prelude.{◌≡◌, ◌⊎◌, ℕ, List, [], Option, Some, None, IfSome, IfNone, Result, IfOk, IfErr, MatchResult}
use Rattle.std.specs.Result.{IsErrAnd}
use Rattle.capnp_frame.specs.declared.error.Error.{Error}
use Rattle.capnp_frame.specs.declared.error.ErrorKind.{ErrorKind}
use Rattle.capnp_frame.specs.declared.error.ErrorKind.TheVariants.{DeviceFailed, OutOfMemory}
use Rattle.capnp_frame.specs.declared.serialize.segment_table.Padding.TheVariants.{Zero}
use Rattle.capnp.specs.declared.streams.Format.{Format}
use Rattle.capnp.specs.Prelude.{ExternalError, FoundNext, TakesForNext, EndsBy, IsStream}

-- What is returned of the first message of a device that gives these bytes.
pub record ReadsFirst (format : Format) (limit : Option ℕ) (result : Result (Option (List (List ℕ))) Error) (bytes : List ℕ) : Type 0 where
  -- the bytes begin with an encoding of the message that is returned
  pub found : IfOk result (λ found. IfSome found (λ message. (rest : List ℕ) × FoundNext Zero format limit message bytes rest))
  -- None is returned only where there are no bytes
  pub none : IfOk result (λ found. IfNone found (bytes ≡ []))
  -- where they begin with an encoding of a message within the limit, that message is returned, except for an external error
  pub accepted : (message : List (List ℕ)) (rest : List ℕ) → FoundNext Zero format limit message bytes rest → MatchResult result
      (λ found. found ≡ Some message) (λ error. ExternalError error.kind)
  -- where there are no bytes None is returned, unless the device fails
  pub end : bytes ≡ [] → MatchResult result (λ found. found ≡ None) (λ error. error.kind ≡ DeviceFailed)
  -- it fails with `DeviceFailed`, with `OutOfMemory` where memory is taken, or as the reader of the message does
  pub errors : IfErr result (λ error. (error.kind ≡ DeviceFailed) ⊎ ((error.kind ≡ OutOfMemory) × TakesForNext Zero format limit bytes)
      ⊎ EndsBy Zero format limit (Some error.kind) bytes)
  -- where that reader fails with a kind, so does the call, except for an external error
  pub exact : (kind : ErrorKind) → EndsBy Zero format limit (Some kind) bytes → IsErrAnd result (λ error. ExternalError error.kind ⊎ (error.kind ≡ kind))

-- What is returned of all messages of a device that gives these bytes; `messages` is what is seen of the list that is returned.
pub record ReadsAll {X : Type 0} (format : Format) (limit : Option ℕ) (messages : X → List (List (List ℕ))) (result : Result X Error) (bytes : List ℕ)
    : Type 0 where
  -- the bytes are encodings of the messages that are returned, one right after the other, and nothing else
  pub found : IfOk result (λ read. IsStream Zero format limit (messages read) None bytes)
  -- where there are no bytes no message is returned, unless the device fails
  pub end : bytes ≡ [] → MatchResult result (λ read. messages read ≡ []) (λ error. error.kind ≡ DeviceFailed)
  -- it fails for an external error, or as the reader does after the messages before
  pub errors : IfErr result (λ error. ExternalError error.kind ⊎ ((before : List (List (List ℕ))) × IsStream Zero format limit before (Some error.kind) bytes))
  -- where the bytes are encodings of messages, just these are returned, except for an external error
  pub accepted : (listed : List (List (List ℕ))) → IsStream Zero format limit listed None bytes → MatchResult result
      (λ read. messages read ≡ listed) (λ error. ExternalError error.kind)
  -- where the reader fails with a kind after some messages, so does the call, except for an external error
  pub exact : (before : List (List (List ℕ))) (kind : ErrorKind) → IsStream Zero format limit before (Some kind) bytes
      → IsErrAnd result (λ error. ExternalError error.kind ⊎ (error.kind ≡ kind))
