-- Which error a reader of a slice or a buffer returns: the lines of its table in their order
-- (docs/FORMAT.md, "Readers of slices and buffers").
use Rattle.std.specs.Prelude.{◌≡◌, ℕ, ◌+◌, ◌-◌, ◌*◌, ◌/◌, ◌%◌, ◌^◌, ◌<◌, ◌≤◌, List, [], length, sum, Option}
use Rattle.capnp_frame.specs.declared.error.ErrorKind.{ErrorKind}
use Rattle.capnp_frame.specs.declared.error.ErrorKind.TheVariants.{FailedToFillTheWholeBuffer, InvalidNumberOfSegments, MessageEndsPrematurely, MessageTooLarge, NonZeroPadding}
use Rattle.capnp_frame.specs.declared.serialize.segment_table.Padding.{Padding}
use Rattle.capnp_frame.specs.SegmentTable.{table_size, KeepsPadding}
use Rattle.capnp_frame.specs.StreamErrors.{Unless, IsOutOfRange, IsTooLarge}
use Rattle.capnp_frame.specs.Front.{number, declared_lengths, declared_padding}

-- How a table is taken.
pub data FlatForm : Type 0 where
  -- as a stream reader does: its first word, then its other words at once; an input of no bytes has
  -- an error of its own
  by_words : (empty : ErrorKind) → FlatForm
  -- field by field
  by_fields : FlatForm

-- the error where there are no bytes at all
abbrev pub empty_kind : FlatForm → ErrorKind
empty_kind (by_words empty) = empty
empty_kind by_fields = MessageEndsPrematurely 4 0

-- the error of a table that is cut, where this many bytes are there
abbrev pub cut_kind : FlatForm → ℕ → ErrorKind
cut_kind (by_words empty) there = FailedToFillTheWholeBuffer
cut_kind by_fields there = MessageEndsPrematurely 4 (there % 4)

-- how many bytes are taken before the number of segments is tested
abbrev pub count_end : FlatForm → ℕ
count_end (by_words empty) = 8
count_end by_fields = 4

-- the number of segments where the first field holds `last`; a stream reader adds 1 modulo 2 ^ 32
abbrev pub count_of : FlatForm → ℕ → ℕ
count_of (by_words empty) last = (last + 1) % 2 ^ 32
count_of by_fields last = last + 1

-- The number of segments is there and accepted, and there is more than one. Here a reader takes memory for their lengths.
abbrev pub AcceptsSeveral : FlatForm → List ℕ → Type 0
AcceptsSeveral form bytes = (count_end form ≤ length bytes) × (IsOutOfRange (count_of form (number bytes)) → ⊥) × (1 < count_of form (number bytes))

-- how many bytes are taken before the limit is tested
abbrev pub lengths_end : FlatForm → ℕ → ℕ
lengths_end (by_words empty) count = table_size count
lengths_end by_fields count = 4 * (count + 1)

-- Below, the lines from the last to the first.

-- The last line: the segments are cut, and the error tells how many words of them are there.
abbrev pub CutsSegments : ErrorKind → List ℕ → ℕ → ℕ → Type 0
CutsSegments kind bytes count total = (length bytes < table_size count + 8 * total)
    × (kind ≡ MessageEndsPrematurely total ((length bytes - table_size count) / 8))

-- the lines once the lengths `ns` are read: the limit of words, the padding's bytes, their values, the segments
abbrev pub LengthsError : FlatForm → Padding → Option ℕ → ErrorKind → List ℕ → ℕ → List ℕ → Type 0
LengthsError form rule limit kind bytes count ns =
    Unless (IsTooLarge ns limit) (kind ≡ MessageTooLarge (sum ns)) (
    Unless (length bytes < table_size count) (kind ≡ cut_kind form (length bytes)) (
    Unless (KeepsPadding rule (declared_padding count bytes) → ⊥) (kind ≡ NonZeroPadding) (
    CutsSegments kind bytes count (sum ns))))

-- the lines once the number of segments is read: its range, the lengths, and what comes after them
abbrev pub FlatCountError : FlatForm → Padding → Option ℕ → ErrorKind → List ℕ → ℕ → Type 0
FlatCountError form rule limit kind bytes count =
    Unless (IsOutOfRange count) (kind ≡ InvalidNumberOfSegments count) (
    Unless (length bytes < lengths_end form count) (kind ≡ cut_kind form (length bytes)) (
    LengthsError form rule limit kind bytes count (declared_lengths count bytes)))

-- All lines: a reader that takes the table in this form, with this rule of padding, fails with this
-- kind.
abbrev pub FlatError : FlatForm → Padding → Option ℕ → ErrorKind → List ℕ → Type 0
FlatError form rule limit kind bytes =
    Unless (bytes ≡ []) (kind ≡ empty_kind form) (
    Unless (length bytes < count_end form) (kind ≡ cut_kind form (length bytes)) (
    FlatCountError form rule limit kind bytes (count_of form (number bytes))))
