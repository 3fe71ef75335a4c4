-- Messages at the front of bytes: what the readers of slices and of caller-provided buffers find there.
use Rattle.std.specs.Prelude.{◌≡◌, ℕ, ◌+◌, ◌*◌, ◌-◌, ◌<◌, ◌≤◌, zero, suc, List, [], ◌∷◌, ◌++◌, length, take, drop, sum, None}
use Rattle.std.specs.List.{flat_map, AllByRecursion}
use Rattle.std.specs.Int.{w32, from_le_bytes}
use Rattle.capnp_frame.specs.Message.{size_in_words}
use Rattle.capnp_frame.specs.SegmentTable.{table_field, FitsField, table_size}
use Rattle.capnp_frame.specs.SegmentLengths.{cut}
use Rattle.capnp_frame.specs.declared.serialize.segment_table.Padding.{Padding}
use Rattle.capnp_frame.specs.declared.serialize.segment_table.Padding.TheVariants.{Any}
use Rattle.capnp_frame.specs.Frame.{IsFrame}
use Rattle.capnp_frame.specs.Limits.{IsWithin}
use Rattle.capnp_frame.specs.declared.serialize.segment_table_info.NoAllocSegmentTableInfo.{NoAllocSegmentTableInfo}
use Rattle.capnp_frame.specs.declared.serialize.segment_table.TheConstants.{SEGMENTS_COUNT_LIMIT}

-- a framed encoding of the message is at the front, with a padding that the rule accepts, and
-- `rest` after it
abbrev pub HasFrame : Padding → List ℕ → List (List ℕ) → List ℕ → Type 0
HasFrame rule bytes segments rest = (encoding : List ℕ) × IsFrame rule encoding segments × (bytes ≡ encoding ++ rest)

-- The bytes begin with a message of 1 to 511 segments and any padding, and these are the numbers of its table.
pub record IsDescribed (bytes : List ℕ) (info : NoAllocSegmentTableInfo) : Type 0 where
  pub segments : List (List ℕ)
  pub rest : List ℕ
  pub begins : HasFrame Any bytes segments rest
  pub within : IsWithin segments None
  pub count : info.segments_count ≡ length segments
  pub table : info.segment_table_length_bytes ≡ table_size (length segments)
  pub total : info.total_segments_length_bytes ≡ 8 * size_in_words segments

-- two tables' numbers are the same
pub record HaveSameNumbers (found info : NoAllocSegmentTableInfo) : Type 0 where
  pub count : found.segments_count ≡ info.segments_count
  pub table : found.segment_table_length_bytes ≡ info.segment_table_length_bytes
  pub total : found.total_segments_length_bytes ≡ info.total_segments_length_bytes

-- the number in the first four bytes
abbrev pub number : List ℕ → ℕ
number bytes = from_le_bytes w32 (take 4 bytes)

-- the numbers in a given number of fields of four bytes
abbrev pub numbers : ℕ → List ℕ → List ℕ
numbers zero bytes = []
numbers (suc count) bytes = number bytes ∷ numbers count (drop 4 bytes)

-- the lengths of a given number of segments, as the fields after the first declare them
abbrev pub declared_lengths : ℕ → List ℕ → List ℕ
declared_lengths count bytes = numbers count (drop 4 bytes)

-- the padding after a given number of fields
abbrev pub declared_padding : ℕ → List ℕ → List ℕ
declared_padding count bytes = drop (4 * (count + 1)) (take (table_size count) bytes)

-- the segments of these lengths, cut from the bytes after the table
abbrev pub declared_segments : ℕ → List ℕ → List (List ℕ)
declared_segments count bytes = cut (declared_lengths count bytes) (drop (table_size count) bytes)

-- The lengths that this many fields declare fit their fields, and written as fields they are these
-- bytes again.
pub record SpellsLengths (bytes : List ℕ) (count : ℕ) : Type 0 where
  pub each : AllByRecursion FitsField (declared_lengths count bytes)
  pub spelled : flat_map table_field (declared_lengths count bytes) ≡ take (4 * count) (drop 4 bytes)

-- a table of a given number of segments is at the front
pub record DeclaresTable (bytes : List ℕ) (count : ℕ) : Type 0 where
  pub some : 0 < count
  pub few : count < SEGMENTS_COUNT_LIMIT
  pub counted : table_field (count - 1) ≡ take 4 bytes
  pub lengths : SpellsLengths bytes count
  pub room : table_size count ≤ length bytes

-- a table of a given number of segments is at the front, and all segments after it
pub record HoldsMessage (bytes : List ℕ) (count : ℕ) : Type 0 where
  pub table : DeclaresTable bytes count
  pub room : table_size count + 8 * sum (declared_lengths count bytes) ≤ length bytes
