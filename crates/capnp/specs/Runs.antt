-- What a run over the messages of a stream reads, writes and returns (src/streams.rt).
use Rattle.std.specs.Prelude.{◌≡◌, ◌<◌, ◌≤◌, ◌⊎◌, ◌+◌, ◌-◌, ◌^◌, ℕ, List, [], ◌∷◌, ◌++◌, length, Option, Some, None, IfSome, Result, Ok, Err, IfErr}
use Rattle.capnp_frame.specs.declared.error.Error.{Error}
use Rattle.capnp_frame.specs.declared.error.ErrorKind.{ErrorKind}
use Rattle.capnp_frame.specs.declared.error.ErrorKind.TheVariants.{DeviceFailed, OutOfMemory}
use Rattle.capnp_frame.specs.declared.serialize.segment_table.Padding.{Padding}
use Rattle.capnp_frame.specs.declared.io.Read.{Ghosts}
use Rattle.capnp_frame.specs.declared.io.Write.{Ghosts as SinkGhosts}
use Rattle.capnp_frame.specs.Prelude.{CountFound, TakesMemory, IsReaderKind, IfKnown, Advances, Fails, Adds, Grows, AreEncodings, IsWritable}
use Rattle.capnp.specs.declared.streams.Format.{Format}
use Rattle.capnp.specs.declared.streams.FailedAt.{FailedAt}
use Rattle.capnp.specs.Headline.{ExternalError}
use Rattle.capnp.specs.Streams.{grammar_of, gives_of, refuses_of, FoundNext, NextError, IsStream}

-- What is written for a message, by its index, as a relation: `Writes index message encoding`.
abbrev pub Writing : Type 1
Writing = ℕ → List (List ℕ) → List ℕ → Type 0

-- How writing the message of an index may fail, except by the device's failure.
pub record WritingErrors : Type 1 where
  -- the message itself can't be written, with this kind
  pub message_error : ℕ → List (List ℕ) → ErrorKind → Type 0
  -- the sink fails within what is written for it, with this kind
  pub sink_error : ℕ → List (List ℕ) → ErrorKind → Type 0
  -- memory is taken to write it
  pub takes_memory : ℕ → List (List ℕ) → Type 0
  -- what is left of it in the sink
  pub leaves : Writing

-- what is written for messages; the first has this index
abbrev pub WritesFrom : Writing → ℕ → List (List (List ℕ)) → List ℕ → Type 0
WritesFrom Writes index [] encoding = encoding ≡ []
WritesFrom Writes index (m ∷ ms) encoding = (first others : List ℕ) × Writes index m first × WritesFrom Writes (index + 1) ms others × (encoding ≡ first ++ others)

abbrev pub WritesAll : Writing → List (List (List ℕ)) → List ℕ → Type 0
WritesAll Writes messages encoding = WritesFrom Writes 0 messages encoding

-- the next message of a stream was written, under this index
pub record HasWrittenNext (rule : Padding) (format : Format) (limit : Option ℕ) (Writes : Writing) (index : ℕ) (before after : Option (List ℕ)) (raw rest : List ℕ) : Type 0 where
  pub message : List (List ℕ)
  pub is_found : FoundNext rule format limit message raw rest
  pub written : IfKnown before after (Adds (Writes index message))

-- This many messages from the front of `raw` were written, and then `rest` is unread.
pub record HasWritten (rule : Padding) (format : Format) (limit : Option ℕ) (Writes : Writing) (count : ℕ) (before after : Option (List ℕ)) (raw rest : List ℕ) : Type 0 where
  pub messages : List (List (List ℕ))
  pub counted : length messages ≡ count
  pub encodings : AreEncodings (grammar_of rule format) limit messages raw rest
  pub written : IfKnown before after (Adds (WritesAll Writes messages))

-- where memory is taken for the next message: as its reader takes it, or as a call that skips it does, for
-- the lengths of any number of segments
abbrev pub TakesInRun : Padding → Format → Option ℕ → List ℕ → List ℕ → Type 0
TakesInRun rule format limit raw left = CountFound (gives_of format) raw left ⊎ TakesMemory rule (gives_of format) limit raw left

-- why the next message was not read: the device failed; an allocation failed where memory is taken, with no
-- more consumed than was asked for until then; or an error of the unread bytes
abbrev pub ReadingError : Padding → Format → Option ℕ → ErrorKind → Option (List ℕ) → Option (List ℕ) → Type 0
ReadingError rule format limit kind old new = (kind ≡ DeviceFailed)
    ⊎ ((kind ≡ OutOfMemory) × IfKnown old new (TakesInRun rule format limit))
    ⊎ IfKnown old new (NextError rule format limit kind)

-- a message is not written because of what it is, or because its sink fails
abbrev pub UnwrittenMessageError : WritingErrors → ℕ → List (List ℕ) → ErrorKind → Type 0
UnwrittenMessageError Errors index message kind = Errors.message_error index message kind ⊎ Errors.sink_error index message kind

-- why a message was not written: the device failed, an allocation failed where memory is taken, the message
-- can't be written, or the sink failed within it
abbrev pub WritingError : WritingErrors → ℕ → List (List ℕ) → ErrorKind → Type 0
WritingError Errors index message kind = (kind ≡ DeviceFailed) ⊎ ((kind ≡ OutOfMemory) × Errors.takes_memory index message)
    ⊎ UnwrittenMessageError Errors index message kind

-- the sink failed within a message, so a front of it may be written; else `same` holds
abbrev pub FailsWithinOr : WritingErrors → ℕ → List (List ℕ) → Type 0 → ErrorKind → Type 0
FailsWithinOr Errors index message same kind = (kind ≡ DeviceFailed) ⊎ Errors.sink_error index message kind ⊎ same

-- a failure that does not depend on the unread bytes: the device's, or an error of writing some message that
-- can be written (`OutOfMemory` only where memory is taken to write it)
abbrev pub RunError : WritingErrors → ℕ → ErrorKind → Type 0
RunError Errors index kind = (kind ≡ DeviceFailed)
    ⊎ ((message : List (List ℕ)) × IsWritable message × WritingError Errors index message kind)

-- the most messages of one run
abbrev pub most_messages : ℕ
most_messages = 2 ^ 64 - 1

-- Below, a run over `raw` leaves `left` unread, and its sink has `before` before the run and
-- `after` after it.

-- All messages are written, or as many as one run takes.
pub record RanOut (rule : Padding) (format : Format) (limit : Option ℕ) (Writes : Writing) (left before after : Option (List ℕ)) (raw : List ℕ) : Type 0 where
  pub count : ℕ
  pub rest : List ℕ
  pub unread : left ≡ Some rest
  pub written : HasWritten rule format limit Writes count before after raw rest
  pub done : (rest ≡ []) ⊎ (count ≡ most_messages)

-- This many messages are written and nothing more, since the next one was not read.
pub record FailedReading (rule : Padding) (format : Format) (limit : Option ℕ) (Writes : Writing) (count : ℕ) (kind : ErrorKind) (left before after : Option (List ℕ)) (raw : List ℕ) : Type 0 where
  pub rest : List ℕ
  pub written : HasWritten rule format limit Writes count before after raw rest
  pub error : ReadingError rule format limit kind (Some rest) left

-- This many messages are written, and the next one was read but not written completely. Nothing of
-- it is written unless the sink failed within it, and there is no gap.
pub record FailedWriting (rule : Padding) (format : Format) (limit : Option ℕ) (Writes : Writing) (Errors : WritingErrors) (count : ℕ) (kind : ErrorKind) (left before after : Option (List ℕ)) (raw : List ℕ) : Type 0 where
  pub rest : List ℕ
  pub between : Option (List ℕ)
  pub written : HasWritten rule format limit Writes count before between raw rest
  pub message : List (List ℕ)
  pub is_found : IfKnown (Some rest) left (FoundNext rule format limit message)
  pub writable : IsWritable message
  pub error : WritingError Errors count message kind
  pub left_of_it : IfKnown between after (Adds (Errors.leaves count message))
  pub untouched : FailsWithinOr Errors count message (after ≡ between) kind

-- it stopped with this kind after this many messages
abbrev pub HasFailed : Padding → Format → Option ℕ → Writing → WritingErrors → ℕ → ErrorKind → Option (List ℕ) → Option (List ℕ) → Option (List ℕ) → List ℕ → Type 0
HasFailed rule format limit Writes Errors count kind left before after raw =
    FailedReading rule format limit Writes count kind left before after raw
    ⊎ FailedWriting rule format limit Writes Errors count kind left before after raw

-- what a run did, by its result
abbrev pub HasRun : Padding → Format → Option ℕ → Writing → WritingErrors → Result (Unit {0}) FailedAt → Option (List ℕ) → Option (List ℕ) → Option (List ℕ) → List ℕ → Type 0
HasRun rule format limit Writes Errors (Ok done) left before after raw = RanOut rule format limit Writes left before after raw
HasRun rule format limit Writes Errors (Err failure) left before after raw = HasFailed rule format limit Writes Errors failure.message failure.error.kind left before after raw

-- the result says that the stream is these messages, and ends in this way
abbrev pub IsResultOf : Result (Unit {0}) FailedAt → List (List (List ℕ)) → Option ErrorKind → Type 0
IsResultOf (Ok done) messages ending = ending ≡ None
IsResultOf (Err failure) messages ending = (ending ≡ Some failure.error.kind) × (failure.message ≡ length messages)

-- writing the message of this index, one of these messages, fails with this kind
pub record WritingErrorAt (Errors : WritingErrors) (messages : List (List (List ℕ))) (index : ℕ) (kind : ErrorKind) : Type 0 where
  pub before : List (List (List ℕ))
  pub message : List (List ℕ)
  pub others : List (List (List ℕ))
  pub listed : messages ≡ before ++ message ∷ others
  pub counted : length before ≡ index
  pub error : WritingError Errors index message kind

-- a run over these messages stopped by an error: no later than where the next one is read, or at one
-- of them
abbrev pub RunErrorOf : WritingErrors → List (List (List ℕ)) → ℕ → ErrorKind → Type 0
RunErrorOf Errors messages index kind = (ExternalError kind × (index ≤ length messages)) ⊎ WritingErrorAt Errors messages index kind

-- the result says so
abbrev pub FailsByRun : WritingErrors → Result (Unit {0}) FailedAt → List (List (List ℕ)) → Type 0
FailsByRun Errors (Ok done) messages = ⊥
FailsByRun Errors (Err failure) messages = RunErrorOf Errors messages failure.message failure.error.kind

-- What a run over the messages of a stream reads, writes and returns. `source` is what is seen of the source
-- (the members of the trait Read), which is `old` before the run and `new` after it. `sink` is what is seen
-- of the sink (the members of Write), which is `before` and then `after`.
pub record WritesEach {S T : Type 0} (source : Ghosts S) (old new : S) (sink : SinkGhosts T) (before after : T)
    (rule : Padding) (format : Format) (limit : Option ℕ) (Writes : Writing) (Errors : WritingErrors)
    (result : Result (Unit {0}) FailedAt) : Type 0 where
  -- each message is written until none is left, or those before the place where the run stopped
  pub written : IfSome (source.unread old)
      (HasRun rule format limit Writes Errors result (source.unread new) (sink.written before) (sink.written after))
  -- the result says how the stream ends, and after how many messages, except for an error of the run
  pub exact : IfSome (source.unread old) (λ raw. (messages : List (List (List ℕ))) (ending : Option ErrorKind)
      → IsStream rule format limit messages ending raw → length messages < most_messages
      → IsResultOf result messages ending ⊎ FailsByRun Errors result messages)
  -- it fails with one of the reader's kinds, or with an error at the message of that index
  pub kinds : IfErr result (λ failure. IsReaderKind rule (refuses_of format) failure.error.kind ⊎ RunError Errors failure.message failure.error.kind)
  -- `DeviceFailed` is returned only where one of the two devices failed
  pub failed : IfErr result (λ failure. failure.error.kind ≡ DeviceFailed
      → Fails (source.failures old) (source.failures new) ⊎ Fails (sink.failures before) (sink.failures after))
  -- the source moves on, or stays
  pub advances : Advances source.unread source.failures source.same old new
  -- what was written before stays at the front
  pub grows : Grows sink.written sink.failures sink.same before after

-- the same for a run that doesn't return after how many messages it stopped
abbrev pub WithoutCount : (Result (Unit {0}) FailedAt → Type 0) → Result (Unit {0}) Error → Type 0
WithoutCount Run (Ok done) = Run (Ok done)
WithoutCount Run (Err error) = (message : ℕ) × Run (Err (record { message = message; error = error }))
