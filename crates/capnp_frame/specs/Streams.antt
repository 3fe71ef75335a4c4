-- What the readers of streams return, and when they fail (src/serialize/stream.rt, src/serialize/provided_stream.rt).
use Rattle.std.specs.Prelude.{◌≡◌, ℕ, ◌+◌, ◌*◌, ◌<◌, ◌≤◌, ◌⊎◌, List, [], length, Option, Some, None, Result, IfOk, IfErr, IfSome, IfNone}
use Rattle.std.specs.List.{concat, AllByRecursion}
use Rattle.std.specs.Option.{option_map}
use Rattle.std.specs.Result.{IsErrAnd, result_map_both}
use Rattle.capnp_frame.specs.declared.error.Error.{Error}
use Rattle.capnp_frame.specs.declared.error.ErrorKind.{ErrorKind}
use Rattle.capnp_frame.specs.declared.error.ErrorKind.TheVariants.{DeviceFailed, OutOfMemory, BufferNotLargeEnough}
use Rattle.capnp_frame.specs.declared.serialize.segment_table.Padding.{Padding}
use Rattle.capnp_frame.specs.declared.io.Read.{Ghosts}
use Rattle.capnp_frame.specs.Message.{IsWholeWords, size_in_words}
use Rattle.capnp_frame.specs.SegmentTable.{table_size}
use Rattle.capnp_frame.specs.Limits.{IsWithin}
use Rattle.capnp_frame.specs.Requests.{MessageFound}
use Rattle.capnp_frame.specs.Source.{Giving, Refusing, IfKnown, Advances, Fails}
use Rattle.capnp_frame.specs.Errors.{FailsWith}
use Rattle.capnp_frame.specs.StreamErrors.{StreamError, Outgrows, TakesMemory, TakesForLengths, IsReaderKind, IsProvidedReaderKind}

-- A message is at the front of `raw`, and `rest` after it, as a relation:
-- `finds segments raw rest`.
abbrev pub Finding : Type 1
Finding = List (List ℕ) → List ℕ → List ℕ → Type 0

-- What a reader returns, by the message in it: a reader that may return None, and one that may not.
abbrev pub next_in : {X : Type 0} → (X → List (List ℕ)) → Result (Option X) Error → Result (Option (List (List ℕ))) Error
next_in segments result = result_map_both (option_map segments) (λ error. error) result

-- What a reader of streams goes by: the format, and in it the rule of padding.
pub record StreamRules : Type 1 where
  -- where a message is
  pub finds : Finding
  -- where a reader that allocates takes memory, within a limit of words: `takes_memory limit raw
  -- left`
  pub takes_memory : Option ℕ → List ℕ → List ℕ → Type 0
  -- the table of errors: `fails limit room kind raw left` says that within a limit of words, and the bytes of
  -- a caller-provided buffer, reading fails with `kind` and leaves `left` unread, by the first line that
  -- holds
  pub fails : Option ℕ → Option ℕ → ErrorKind → List ℕ → List ℕ → Type 0
  -- the kinds with which a reader that allocates may fail, also where the unread bytes aren't known
  pub kinds : ErrorKind → Type 0
  -- the kinds that a reader into a caller-provided buffer may return
  pub provided_kinds : ErrorKind → Type 0

-- Framed messages, with a padding that the rule accepts, over a source with these requests and
-- errors.
abbrev pub framed_rules : Padding → Giving → Refusing → StreamRules
framed_rules rule gives refuses = record {
  finds = MessageFound rule gives;
  takes_memory = TakesMemory rule gives;
  fails = StreamError rule gives refuses;
  kinds = IsReaderKind rule refuses;
  provided_kinds = IsProvidedReaderKind rule refuses;
}

-- Framed messages that are read into the memory of the message `kept`: none is taken for as many segments as it has, or for one, and
-- for as many bytes.
abbrev pub reusing_rules : Padding → Giving → Refusing → List (List ℕ) → StreamRules
reusing_rules rule gives refuses kept = record (framed_rules rule gives refuses) { takes_memory = Outgrows (length kept) (length (concat kept)) rule gives }

-- Framed messages whose segments are skipped: memory is taken for the lengths alone, where they are more than `kept`.
abbrev pub skipping_rules : Padding → Giving → Refusing → ℕ → StreamRules
skipping_rules rule gives refuses kept = record (framed_rules rule gives refuses) { takes_memory = λ limit. TakesForLengths kept gives }

-- What each reader of a stream that allocates returns. `source` is what is seen of the source (the
-- members of the trait Read), `old` and `new` are the source before the call and after it.
pub record ReadsStream {S : Type 0} (source : Ghosts S) (old new : S) (rules : StreamRules) (limit : Option ℕ)
    (result : Result (Option (List (List ℕ))) Error) : Type 0 where
  -- the message that is returned is there, and just its bytes are consumed
  pub found : IfOk result (λ found. IfSome found (λ segments. IfKnown (source.unread old) (source.unread new) (rules.finds segments)))
  -- it has 1 to 511 segments and is within the limit of words
  pub within : IfOk result (λ found. IfSome found (λ segments. IsWithin segments limit))
  -- its segments are whole words
  pub whole : IfOk result (λ found. IfSome found (AllByRecursion IsWholeWords))
  -- None is returned only where nothing is unread
  pub none : IfOk result (λ found. IfNone found (IfSome (source.unread old) (λ raw. raw ≡ [])))
  -- where a message is, the call fails only with the device's failure or with `OutOfMemory`
  pub accepted : IfSome (source.unread old) (λ raw. (segments : List (List ℕ)) (rest : List ℕ) → rules.finds segments raw rest
      → IsWithin segments limit → IfErr result (λ error. (error.kind ≡ DeviceFailed) ⊎ (error.kind ≡ OutOfMemory)))
  -- where nothing is unread, it fails only with the device's failure
  pub end : IfErr result (λ error. source.unread old ≡ Some [] → error.kind ≡ DeviceFailed)
  -- it fails with the device's failure, with `OutOfMemory` where memory is taken, or with a line of the table of errors
  pub errors : IfErr result (λ error. (error.kind ≡ DeviceFailed)
      ⊎ ((error.kind ≡ OutOfMemory) × IfKnown (source.unread old) (source.unread new) (rules.takes_memory limit))
      ⊎ IfKnown (source.unread old) (source.unread new) (rules.fails limit None error.kind))
  -- where a line is the first to hold, the call fails with that line's kind, unless the device or an
  -- allocation fails
  pub exact : IfSome (source.unread old) (λ raw. (kind : ErrorKind) (left : List ℕ) → rules.fails limit None kind raw left
      → IsErrAnd result (λ error. (error.kind ≡ DeviceFailed) ⊎ (error.kind ≡ OutOfMemory) ⊎ (error.kind ≡ kind)))
  pub kinds : IfErr result (λ error. rules.kinds error.kind)
  -- `DeviceFailed` is returned only where the device failed
  pub failed : IfErr result (λ error. error.kind ≡ DeviceFailed → Fails (source.failures old) (source.failures new))
  -- the source moves on, or stays
  pub advances : Advances source.unread source.failures source.same old new

-- What each reader of a stream into a caller-provided buffer of `room` bytes returns. It takes no memory.
pub record ReadsStreamInto {S : Type 0} (source : Ghosts S) (old new : S) (rules : StreamRules) (limit : Option ℕ) (room : ℕ)
    (result : Result (Option (List (List ℕ))) Error) : Type 0 where
  -- the message that is returned is there, and just its bytes are consumed
  pub found : IfOk result (λ found. IfSome found (λ segments. IfKnown (source.unread old) (source.unread new) (rules.finds segments)))
  -- it has 1 to 511 segments and is within the limit of words
  pub within : IfOk result (λ found. IfSome found (λ segments. IsWithin segments limit))
  -- its segments are whole words
  pub whole : IfOk result (λ found. IfSome found (AllByRecursion IsWholeWords))
  -- None is returned only where nothing is unread
  pub none : IfOk result (λ found. IfNone found (IfSome (source.unread old) (λ raw. raw ≡ [])))
  -- where a message is and fits the buffer, the call fails only with the device's failure
  pub accepted : IfSome (source.unread old) (λ raw. (segments : List (List ℕ)) (rest : List ℕ) → rules.finds segments raw rest
      → IsWithin segments limit → table_size (length segments) + 8 * size_in_words segments ≤ room
      → IfErr result (λ error. error.kind ≡ DeviceFailed))
  -- where nothing is unread and the buffer has a word, it fails only with the device's failure
  pub end : IfErr result (λ error. source.unread old ≡ Some [] → 8 ≤ room → error.kind ≡ DeviceFailed)
  -- a buffer under 8 bytes asks the source for nothing
  pub short : room < 8 → (new ≡ old) × FailsWith result BufferNotLargeEnough
  -- it fails with the device's failure, or with a line of the table of errors
  pub errors : IfErr result (λ error. (error.kind ≡ DeviceFailed)
      ⊎ IfKnown (source.unread old) (source.unread new) (rules.fails limit (Some room) error.kind))
  -- where a line is the first to hold, the call fails with that line's kind, unless the device
  -- fails
  pub exact : IfSome (source.unread old) (λ raw. (kind : ErrorKind) (left : List ℕ) → rules.fails limit (Some room) kind raw left
      → IsErrAnd result (λ error. (error.kind ≡ DeviceFailed) ⊎ (error.kind ≡ kind)))
  pub kinds : IfErr result (λ error. rules.provided_kinds error.kind)
  -- `DeviceFailed` is returned only where the device failed
  pub failed : IfErr result (λ error. error.kind ≡ DeviceFailed → Fails (source.failures old) (source.failures new))
  -- the source moves on, or stays
  pub advances : Advances source.unread source.failures source.same old new
