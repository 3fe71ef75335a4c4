-- The segment table at the front of a framed message.
-- Encoding document, "Serialization Over a Stream".
use Rattle.std.specs.Prelude.{⊤, ◌≡◌, ℕ, ◌+◌, ◌-◌, ◌*◌, ◌/◌, ◌%◌, ◌^◌, ◌<◌, ◌≤◌, List, ◌++◌, length, replicate}
use Rattle.std.specs.List.{flat_map, AllByRecursion}
use Rattle.std.specs.Int.{w32, to_le_bytes}
use Rattle.capnp_frame.specs.declared.serialize.segment_table.Padding.{Padding}
use Rattle.capnp_frame.specs.declared.serialize.segment_table.Padding.TheVariants.{Any, Zero}

-- a number in four bytes, least significant first
abbrev pub table_field : ℕ → List ℕ
table_field n = to_le_bytes w32 n

-- a number that fits the four bytes of a field
abbrev pub FitsField : ℕ → Type 0
FitsField n = n < 2 ^ 32

-- four bytes exactly where the number of segments is even
abbrev pub padding_len : List ℕ → ℕ
padding_len lengths = 4 * ((length lengths + 1) % 2)

-- padding that the rule accepts: any bytes, or zeros
abbrev pub KeepsPadding : Padding → List ℕ → Type 0
KeepsPadding Any padding = ⊤
KeepsPadding Zero padding = padding ≡ replicate (length padding) 0

-- the number of segments less one, the length of each, and padding
abbrev pub table_bytes : List ℕ → List ℕ → List ℕ
table_bytes lengths padding = table_field (length lengths - 1) ++ flat_map table_field lengths ++ padding

-- the table whose padding is zero
abbrev pub zero_padded_table : List ℕ → List ℕ
zero_padded_table lengths = table_bytes lengths (replicate (padding_len lengths) 0)

-- how many bytes the table of a given number of segments takes
abbrev pub table_size : ℕ → ℕ
table_size count = 8 * (count / 2 + 1)

-- lengths that have a table: at least one, and each number fits its field
pub record HasTable (lengths : List ℕ) : Type 0 where
  pub some : 0 < length lengths
  pub count : length lengths ≤ 2 ^ 32
  pub each : AllByRecursion FitsField lengths

-- `encoding` is a segment table of these lengths, in words, with a padding that the rule accepts.
pub record IsTable (rule : Padding) (encoding lengths : List ℕ) : Type 0 where
  pub can : HasTable lengths
  pub padding : List ℕ
  pub padded : length padding ≡ padding_len lengths
  pub kept : KeepsPadding rule padding
  pub spelled : encoding ≡ table_bytes lengths padding
