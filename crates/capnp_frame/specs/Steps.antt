-- What the private steps of the readers of streams keep (src/serialize/stream.rt, src/serialize/stream_table.rt, src/serialize/provided_stream.rt).
use Rattle.std.specs.Prelude.{◌≡◌, ◌⊎◌, ℕ, ◌*◌, ◌^◌, ◌<◌, ◌≤◌, List, [], length, map, take, drop, sum, Option, Some, None, Result, IfOk, IfErr, OnOk, IfSome, IfNone}
use Rattle.std.specs.List.{AllByRecursion}
use Rattle.capnp_frame.specs.declared.error.Error.{Error}
use Rattle.capnp_frame.specs.declared.error.ErrorKind.{ErrorKind}
use Rattle.capnp_frame.specs.declared.error.ErrorKind.TheVariants.{DeviceFailed, OutOfMemory, BufferNotLargeEnough}
use Rattle.capnp_frame.specs.declared.serialize.segment_table.Padding.{Padding}
use Rattle.capnp_frame.specs.declared.io.Read.{Ghosts}
use Rattle.capnp_frame.specs.SegmentTable.{FitsField}
use Rattle.capnp_frame.specs.SegmentLengths.{range_len, AreRanges}
use Rattle.capnp_frame.specs.Limits.{KeepsLimit, AreWithin}
use Rattle.capnp_frame.specs.Front.{declared_lengths, declared_segments, DeclaresTable, HoldsMessage}
use Rattle.capnp_frame.specs.Source.{Giving, Refusing, IfKnown}
use Rattle.capnp_frame.specs.Requests.{RestFound, TableFound, MessageFound}
use Rattle.capnp_frame.specs.Errors.{FailsWith}
use Rattle.capnp_frame.specs.StreamErrors.{LimitError, RestError, TableError, TakesForLengths, IsTableKind, IsReaderKind, IsProvidedReaderKind}
use Rattle.capnp_frame.specs.Asking.{Asked, FailsOr}

-- A step that completes a table of a given number of segments fails by a line of the table of
-- errors: the request of its other words, the limit, or the padding.
abbrev pub TableRestError : Padding → Giving → Refusing → Option ℕ → ErrorKind → List ℕ → ℕ → List ℕ → List ℕ → Type 0
TableRestError rule gives refuses limit kind first count raw left = RestError rule gives refuses limit kind (λ ns following. ⊥) left first count raw

-- A complete table fails by the limit or by the padding, whatever is unread after it.
abbrev pub CompleteTableError : Padding → Option ℕ → ErrorKind → List ℕ → Type 0
CompleteTableError rule limit kind table = (following : List ℕ) → LimitError rule limit kind (λ ns rest. ⊥) following (take 8 table) (drop 8 table) following

-- What is kept by a step that reads the words of a table after its first, tests the limit and the
-- padding, and fills in where each segment begins and ends.
pub record ReadsLengths {S : Type 0} (source : Ghosts S) (old new : S) (rule : Padding) (limit : Option ℕ) (first : List ℕ)
    (indices : List (ℕ × ℕ)) (result : Result ℕ Error) : Type 0 where
  -- the lengths between the indices are the lengths in the table that is there
  pub table : OnOk result (IfKnown (source.unread old) (source.unread new) (RestFound rule source.gives first (map range_len indices)))
  pub ranges : IfOk result (AreRanges indices)
  pub bound : IfOk result (λ total. total < 2 ^ 42)
  pub each : OnOk result (AllByRecursion FitsField (map range_len indices))
  pub within : OnOk result (KeepsLimit (map range_len indices) limit)
  -- a failure is the device's, or of the first line that holds
  pub errors : FailsOr result (λ kind. IfKnown (source.unread old) (source.unread new)
      (TableRestError rule source.gives source.refuses limit kind first (length indices)))
  pub kinds : IfErr result (λ error. IsTableKind rule source.refuses error.kind)
  pub asked : Asked source.unread source.failures source.same old new result

-- What is found by a step that reads a table, of this many segments and words, to the front of a
-- caller-provided buffer.
pub record FindsTable (rule : Padding) (gives : Giving) (limit : Option ℕ) (buffer : List ℕ) (count total : ℕ) (old new : Option (List ℕ)) : Type 0 where
  -- the table is there, and just its bytes are consumed
  pub found : IfKnown old new (TableFound rule gives (declared_lengths count buffer))
  pub tells : DeclaresTable buffer count
  pub total_is : total ≡ sum (declared_lengths count buffer)
  pub within : KeepsLimit (declared_lengths count buffer) limit

-- what a step finds of a message: how many segments it has, and how many bytes after its table.
pub record FindsMessageSize (rule : Padding) (gives : Giving) (limit : Option ℕ) (buffer : List ℕ) (count bytes : ℕ) (old new : Option (List ℕ)) : Type 0 where
  pub found : IfKnown old new (MessageFound rule gives (declared_segments count buffer))
  pub holds : HoldsMessage buffer count
  pub total_is : bytes ≡ 8 * sum (declared_lengths count buffer)
  pub within : KeepsLimit (declared_lengths count buffer) limit

-- What is kept, in addition to what is found, by a step that reads what comes next in a stream, or none at
-- its end. It takes memory where `takes` holds, and `lines` are lines of the table of errors.
pub record AsksNext {S X : Type 0} (source : Ghosts S) (old new : S) (rule : Padding) (takes : List ℕ → List ℕ → Type 0)
    (lines : ErrorKind → List ℕ → List ℕ → Type 0) (result : Result (Option X) Error) : Type 0 where
  pub none : IfOk result (λ found. IfNone found (IfSome (source.unread old) (λ raw. raw ≡ [])))
  pub errors : FailsOr result (λ kind. ((kind ≡ OutOfMemory) × IfKnown (source.unread old) (source.unread new) takes)
      ⊎ IfKnown (source.unread old) (source.unread new) (lines kind))
  pub kinds : IfErr result (λ error. IsReaderKind rule source.refuses error.kind)
  pub end : IfErr result (λ error. source.unread old ≡ Some [] → error.kind ≡ DeviceFailed)
  pub asked : Asked source.unread source.failures source.same old new result

-- What is kept by a step that reads the table of the next message. It returns the lengths that the table
-- declares, or none at the source's end. No memory is taken for `kept` lengths.
pub record ReadsTable {S : Type 0} (source : Ghosts S) (old new : S) (rule : Padding) (limit : Option ℕ) (kept : ℕ)
    (result : Result (Option (List ℕ)) Error) : Type 0 where
  -- the table is there, and just its bytes are consumed
  pub found : IfOk result (λ found. IfSome found (λ ns. IfKnown (source.unread old) (source.unread new) (TableFound rule source.gives ns)))
  -- its lengths are within the limit, in words
  pub within : IfOk result (λ found. IfSome found (λ ns. AreWithin ns limit))
  -- so their sum fits a number of 64 bits
  pub bound : IfOk result (λ found. IfSome found (λ ns. sum ns < 2 ^ 42))
  -- what else is returned: the end of the stream, or an error, and with which kind
  pub asks : AsksNext source old new rule (TakesForLengths kept source.gives) (TableError rule source.gives source.refuses limit None) result

-- A step that reads into a caller-provided buffer of `room` bytes, which takes no memory.
pub record AsksNextInto {S X : Type 0} (source : Ghosts S) (old new : S) (rule : Padding) (room : ℕ)
    (lines : ErrorKind → List ℕ → List ℕ → Type 0) (result : Result (Option X) Error) : Type 0 where
  pub none : IfOk result (λ found. IfNone found ((8 ≤ room) × IfSome (source.unread old) (λ raw. raw ≡ [])))
  pub short : room < 8 → (new ≡ old) × FailsWith result BufferNotLargeEnough
  pub errors : FailsOr result (λ kind. IfKnown (source.unread old) (source.unread new) (lines kind))
  pub kinds : IfErr result (λ error. IsProvidedReaderKind rule source.refuses error.kind)
  pub end : IfErr result (λ error. source.unread old ≡ Some [] → 8 ≤ room → error.kind ≡ DeviceFailed)
  pub asked : Asked source.unread source.failures source.same old new result
