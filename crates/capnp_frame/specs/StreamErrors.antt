-- Which error a stream reader returns: the lines of its table in their order (docs/FORMAT.md, "Readers of streams").
use Rattle.std.specs.Prelude.{◌≡◌, ◌≢◌, ℕ, ◌+◌, ◌-◌, ◌*◌, ◌/◌, ◌%◌, ◌^◌, ◌<◌, ◌≤◌, ◌⊎◌, max, List, [], ◌++◌, length, take, sum, Option, IsSomeAnd}
use Rattle.capnp_frame.specs.declared.error.ErrorKind.{ErrorKind}
use Rattle.capnp_frame.specs.declared.error.ErrorKind.TheVariants.{DeviceFailed, OutOfMemory, BufferNotLargeEnough, InvalidNumberOfSegments, MessageTooLarge, NonZeroPadding}
use Rattle.capnp_frame.specs.declared.serialize.segment_table.Padding.{Padding}
use Rattle.capnp_frame.specs.declared.serialize.segment_table.Padding.TheVariants.{Any, Zero}
use Rattle.capnp_frame.specs.SegmentTable.{table_field, FitsField, IsTable, table_size}
use Rattle.capnp_frame.specs.Source.{Giving, Refusing}
use Rattle.capnp_frame.specs.Limits.{AreWithin}
use Rattle.capnp_frame.specs.Requests.{TableFound}
use Rattle.capnp_frame.specs.declared.serialize.segment_table.TheConstants.{SEGMENTS_COUNT_LIMIT}

-- A test: its own line where it holds, and the lines after it where it does not.
abbrev pub Unless : Type 0 → Type 0 → Type 0 → Type 0
Unless holds line after = (holds × line) ⊎ ((holds → ⊥) × after)

-- A request: the source's error, or else the lines after its bytes.
abbrev pub Asks : Giving → Refusing → ErrorKind → List ℕ → ℕ → (List ℕ → List ℕ → Type 0) → Type 0
Asks gives refuses kind raw n after = refuses raw n kind ⊎ ((bytes rest : List ℕ) × gives raw n bytes rest × after bytes rest)

-- the number of segments that the first word of a table declares, in four bytes, modulo 2 ^ 32
abbrev pub DeclaresCount : List ℕ → ℕ → Type 0
DeclaresCount word count = (last : ℕ) × FitsField last × (table_field last ≡ take 4 word) × (count ≡ (last + 1) % 2 ^ 32)

-- no reader accepts this number of segments
abbrev pub IsOutOfRange : ℕ → Type 0
IsOutOfRange count = (count ≡ 0) ⊎ (SEGMENTS_COUNT_LIMIT ≤ count)

-- the first word of a table declares this number of segments, and it is accepted
pub record DeclaresAccepted (word : List ℕ) (count : ℕ) : Type 0 where
  pub some : 0 < count
  pub few : count < SEGMENTS_COUNT_LIMIT
  pub declared : table_field (count - 1) ≡ take 4 word

-- more words than the limit, where there is one
abbrev pub IsTooLarge : List ℕ → Option ℕ → Type 0
IsTooLarge ns limit = IsSomeAnd limit (λ most. most < sum ns)

-- a caller-provided buffer is shorter than this; a reader that allocates has no such buffer
abbrev pub IsTooShort : Option ℕ → ℕ → Type 0
IsTooShort room n = IsSomeAnd room (λ len. len < n)

-- The reader fails with a kind of its own, and leaves the bytes `here` unread.
abbrev pub FailsLeaving : ErrorKind → ErrorKind → List ℕ → List ℕ → Type 0
FailsLeaving own kind here left = (kind ≡ own) × (left ≡ here)

-- the bytes are no table by the rule, though they are one with another padding
abbrev pub RejectsPadding : Padding → List ℕ → List ℕ → Type 0
RejectsPadding rule encoding ns = IsTable rule encoding ns → ⊥

-- Below, a reader fails with `kind` and leaves `left` unread, or goes on to `after`, the lines
-- after a table of these lengths. Where the source fails, nothing is said of what it leaves.

-- the lines of the limit and of the padding: both parts of the table are read, `word` and `others`
abbrev pub LimitError : Padding → Option ℕ → ErrorKind → (List ℕ → List ℕ → Type 0) → List ℕ → List ℕ → List ℕ → List ℕ → Type 0
LimitError rule limit kind after left word others following = (ns : List ℕ) × IsTable Any (word ++ others) ns
    × Unless (IsTooLarge ns limit) (FailsLeaving (MessageTooLarge (sum ns)) kind following left) (
    Unless (RejectsPadding rule (word ++ others) ns) (FailsLeaving NonZeroPadding kind following left) (after ns following))

-- the lines once a table of a given number of segments is to be completed: the request of its other words, and what comes after
abbrev pub RestError : Padding → Giving → Refusing → Option ℕ → ErrorKind → (List ℕ → List ℕ → Type 0) → List ℕ → List ℕ → ℕ → List ℕ → Type 0
RestError rule gives refuses limit kind after left word count between =
    Asks gives refuses kind between (8 * (count / 2)) (LimitError rule limit kind after left word)

-- the lines once the table's first word is read: the number of segments, the room, the table's other words
abbrev pub CountError : Padding → Giving → Refusing → Option ℕ → Option ℕ → ErrorKind → (List ℕ → List ℕ → Type 0) → List ℕ → List ℕ → List ℕ → Type 0
CountError rule gives refuses limit room kind after left word between = (count : ℕ) × DeclaresCount word count
    × Unless (IsOutOfRange count) (FailsLeaving (InvalidNumberOfSegments count) kind between left) (
    Unless (IsTooShort room (table_size count)) (FailsLeaving BufferNotLargeEnough kind between left) (
    RestError rule gives refuses limit kind after left word count between))

-- the lines from the start on: the room for a word, the first word, and what comes after it
abbrev pub StartError : Padding → Giving → Refusing → Option ℕ → Option ℕ → ErrorKind → (List ℕ → List ℕ → Type 0) → List ℕ → List ℕ → Type 0
StartError rule gives refuses limit room kind after raw left =
    Unless (IsTooShort room 8) (FailsLeaving BufferNotLargeEnough kind raw left) (
    (raw ≢ []) × Asks gives refuses kind raw 8 (CountError rule gives refuses limit room kind after left))

-- A reader of a table alone fails with this kind: its lines end after the padding's.
abbrev pub TableError : Padding → Giving → Refusing → Option ℕ → Option ℕ → ErrorKind → List ℕ → List ℕ → Type 0
TableError rule gives refuses limit room kind raw left = StartError rule gives refuses limit room kind (λ ns following. ⊥) raw left

-- All lines: a reader of a message fails with this kind. After the table come the room for the
-- segments and the request of them.
abbrev pub StreamError : Padding → Giving → Refusing → Option ℕ → Option ℕ → ErrorKind → List ℕ → List ℕ → Type 0
StreamError rule gives refuses limit room kind raw left = StartError rule gives refuses limit room kind (λ ns following.
    Unless (IsTooShort room (table_size (length ns) + 8 * sum ns)) (FailsLeaving BufferNotLargeEnough kind following left) (
    refuses following (8 * sum ns) kind)) raw left

-- the first word of a table is at the front, and the number of segments that it declares is
-- accepted
pub record CountFound (gives : Giving) (raw rest : List ℕ) : Type 0 where
  pub word : List ℕ
  pub count : ℕ
  pub given : gives raw 8 word rest
  pub declared : DeclaresCount word count
  pub accepted : IsOutOfRange count → ⊥

-- Where memory is taken for the lengths: their number is accepted, and is more than `kept`, the number of lengths that take none.
-- The first word of the table is consumed, and no more.
abbrev pub TakesForLengths : ℕ → Giving → List ℕ → List ℕ → Type 0
TakesForLengths kept gives raw left = (is_found : CountFound gives raw left) × (kept < is_found.count)

-- Where a reader that allocates takes memory, though it has some for this number of lengths and of bytes. For
-- the lengths of more segments than these, and than one, it does once their number is accepted; for segments
-- of more bytes, once their table is, with the limit and the padding. Only what it has asked for until then
-- is consumed.
abbrev pub Outgrows : ℕ → ℕ → Padding → Giving → Option ℕ → List ℕ → List ℕ → Type 0
Outgrows segments bytes rule gives limit raw left = TakesForLengths (max 1 segments) gives raw left
    ⊎ ((lengths : List ℕ) × TableFound rule gives lengths raw left × AreWithin lengths limit × (bytes < 8 * sum lengths))

-- the same, of a reader that has no memory yet
abbrev pub TakesMemory : Padding → Giving → Option ℕ → List ℕ → List ℕ → Type 0
TakesMemory = Outgrows 0 0

-- the kind of a padding that the rule does not accept
abbrev pub IsPaddingKind : Padding → ErrorKind → Type 0
IsPaddingKind rule kind = (rule ≡ Zero) × (kind ≡ NonZeroPadding)

-- the kinds with which completing a table may fail, also where the unread bytes aren't known
abbrev pub IsTableKind : Padding → Refusing → ErrorKind → Type 0
IsTableKind rule refuses kind = (kind ≡ DeviceFailed)
    ⊎ ((total : ℕ) × (kind ≡ MessageTooLarge total))
    ⊎ IsPaddingKind rule kind
    ⊎ ((raw : List ℕ) × (n : ℕ) × refuses raw n kind)

-- the kinds of a reader into a caller-provided buffer, also where the unread bytes aren't known
abbrev pub IsProvidedReaderKind : Padding → Refusing → ErrorKind → Type 0
IsProvidedReaderKind rule refuses kind = (kind ≡ DeviceFailed) ⊎ (kind ≡ BufferNotLargeEnough)
    ⊎ ((count : ℕ) × IsOutOfRange count × (kind ≡ InvalidNumberOfSegments count))
    ⊎ ((total : ℕ) × (kind ≡ MessageTooLarge total))
    ⊎ IsPaddingKind rule kind
    ⊎ ((raw : List ℕ) × (n : ℕ) × refuses raw n kind)

-- the kinds of a reader that allocates, also where the unread bytes aren't known: the device's,
-- `OutOfMemory`, its own, or one of the source
abbrev pub IsReaderKind : Padding → Refusing → ErrorKind → Type 0
IsReaderKind rule refuses kind = (kind ≡ DeviceFailed) ⊎ (kind ≡ OutOfMemory)
    ⊎ ((count : ℕ) × IsOutOfRange count × (kind ≡ InvalidNumberOfSegments count))
    ⊎ ((total : ℕ) × (kind ≡ MessageTooLarge total))
    ⊎ IsPaddingKind rule kind
    ⊎ ((raw : List ℕ) × (n : ℕ) × refuses raw n kind)
