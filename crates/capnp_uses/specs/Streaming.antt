-- What callers return of streams and of logs.
use Rattle.std.specs.Prelude.{◌≡◌, ◌⊎◌, ◌∷◌, ℕ, List, [], length, Option, Some, None, Bool, IsTrue, IsFalse, IfSome, IfNone, IsSomeAnd, Result, IsOk, IfOk, IfErr, MatchResult}
use Rattle.std.specs.Result.{IsErrAnd}
use Rattle.capnp_frame.specs.declared.error.Error.{Error}
use Rattle.capnp_frame.specs.declared.error.ErrorKind.{ErrorKind}
use Rattle.capnp_frame.specs.declared.error.ErrorKind.TheVariants.{DeviceFailed, OutOfMemory}
use Rattle.capnp_frame.specs.declared.io.Read.{Ghosts}
use Rattle.capnp_frame.specs.declared.serialize.segment_table.Padding.TheVariants.{Zero}
use Rattle.capnp_frame.specs.Prelude.{IsWithin, default_limit, TakesMemory, IsReaderKind, IfKnown, Advances, Fails, AreEncodings}
use Rattle.capnp.specs.declared.streams.Format.{Format}
use Rattle.capnp.specs.Prelude.{ExternalError, IsMemoryError, IsLog, grammar_of, gives_of, refuses_of, FoundNext, NextError, TakesForNext, EndsBy}

-- The result of a call that reads past the next message of a stream, with zero padding, and returns whether
-- there was one. `source` is what is seen of the source (the members of the trait Read), which is `old`
-- before the call and `new` after it.
pub record SkipsNextMessage {S : Type 0} (source : Ghosts S) (old new : S) (format : Format) (limit : Option ℕ) (result : Result Bool Error)
    : Type 0 where
  -- true is returned for a message within the limit whose encoding was next, and only that encoding
  -- is consumed
  pub passed : IfOk result (λ reported. IsTrue reported → (message : List (List ℕ)) × IsWithin message limit
      × IfKnown (source.unread old) (source.unread new) (FoundNext Zero format limit message))
  -- false is returned only where nothing is unread
  pub none : IfOk result (λ reported. IsFalse reported → IfSome (source.unread old) (λ raw. raw ≡ []))
  -- where such an encoding is next, true is returned, except for an external error
  pub accepted : IfSome (source.unread old) (λ raw. (message : List (List ℕ)) (rest : List ℕ) → FoundNext Zero format limit message raw rest
      → MatchResult result IsTrue (λ error. ExternalError error.kind))
  -- where nothing is unread false is returned, unless the device fails
  pub end : source.unread old ≡ Some [] → MatchResult result IsFalse (λ error. error.kind ≡ DeviceFailed)
  -- it fails with `DeviceFailed`, with `OutOfMemory` where memory is taken, or with a line of the table of errors
  pub errors : IfErr result (λ error. (error.kind ≡ DeviceFailed)
      ⊎ ((error.kind ≡ OutOfMemory) × IfKnown (source.unread old) (source.unread new) (TakesMemory Zero (gives_of format) limit))
      ⊎ IfKnown (source.unread old) (source.unread new) (NextError Zero format limit error.kind))
  -- where a line is the first to hold, it fails with that line's kind, unless the device fails or the call is
  -- out of memory
  pub exact : IfSome (source.unread old) (λ raw. (kind : ErrorKind) (left : List ℕ) → NextError Zero format limit kind raw left
      → IsErrAnd result (λ error. (error.kind ≡ DeviceFailed) ⊎ (error.kind ≡ OutOfMemory) ⊎ (error.kind ≡ kind)))
  pub kinds : IfErr result (λ error. IsReaderKind Zero (refuses_of format) error.kind)
  -- `DeviceFailed` is returned only where the device failed
  pub failed : IfErr result (λ error. error.kind ≡ DeviceFailed → Fails (source.failures old) (source.failures new))
  -- the source moves on, or stays
  pub advances : Advances source.unread source.failures source.same old new

-- these two messages begin the stream, one right after the other
abbrev pub BeginWith : Format → List (List ℕ) → List (List ℕ) → List ℕ → List ℕ → Type 0
BeginWith format first second stream rest = AreEncodings (grammar_of Zero format) default_limit (first ∷ second ∷ []) stream rest

-- no message of these bytes is returned: an allocation fails, or the reader fails
abbrev pub NextMessageError : Format → ErrorKind → List ℕ → Type 0
NextMessageError format kind rest = ((kind ≡ OutOfMemory) × TakesForNext Zero format default_limit rest) ⊎ EndsBy Zero format default_limit (Some kind) rest

-- The result of a call that reads the first two messages of a stream in memory, with zero padding and within the default
-- limit of words. `segments` is what is seen of a message's reader.
pub record ReadsTwo {X : Type 0} (format : Format) (stream : List ℕ) (segments : X → List (List ℕ)) (result : Result (Option (X × X)) Error)
    : Type 0 where
  -- the two that are returned begin the stream, the second one right after the first
  pub found : IfOk result (λ found. IfSome found (λ two. (rest : List ℕ) × BeginWith format (segments two.0) (segments two.1) stream rest))
  -- None is returned only where the stream is empty, or ends after the first
  pub none : IfOk result (λ found. IfNone found ((stream ≡ []) ⊎ ((message : List (List ℕ)) × FoundNext Zero format default_limit message stream [])))
  -- where two messages begin the stream, they are returned, unless the call is out of memory
  pub accepted : (first second : List (List ℕ)) (rest : List ℕ) → BeginWith format first second stream rest → MatchResult result
      (λ found. IsSomeAnd found (λ two. (segments two.0 ≡ first) × (segments two.1 ≡ second))) (λ error. error.kind ≡ OutOfMemory)
  -- an empty stream takes no memory
  pub empty : stream ≡ [] → IsOk result
  -- it fails as the reader of the first message does, or of the second one
  pub errors : IfErr result (λ error. NextMessageError format error.kind stream
      ⊎ ((message : List (List ℕ)) × (rest : List ℕ) × FoundNext Zero format default_limit message stream rest × NextMessageError format error.kind rest))

-- What is read of a log of two records, unless the call is out of memory: both, and the last one ends where
-- the log does that they were appended to.
pub record ReadsBoth (limit : Option ℕ) (first second : List (List ℕ)) (messages : List (List (List ℕ))) (end : ℕ) (error : Option Error)
    : Type 0 where
  pub back : IsMemoryError error ⊎ (messages ≡ first ∷ second ∷ []) × (error ≡ None)
  pub ends : IsMemoryError error ⊎ (log : List ℕ) × IsLog limit (first ∷ second ∷ []) log × (end ≡ length log)
