-- What is written of a message, and in which chunks (src/serialize/writing.rt).
-- Encoding document, "Serialization Over a Stream".
use Rattle.std.specs.Prelude.{◌≡◌, ℕ, ◌+◌, ◌/◌, ◌^◌, ◌<◌, ◌≤◌, List, [], ◌∷◌, ◌++◌, length, take, drop, nat_lt, if◌then◌else◌}
use Rattle.std.specs.List.{AllByRecursion}
use Rattle.capnp_frame.specs.declared.error.ErrorKind.{ErrorKind}
use Rattle.capnp_frame.specs.declared.error.ErrorKind.TheVariants.{InvalidNumberOfSegments}
use Rattle.capnp_frame.specs.Message.{IsWholeWords, lengths, size_in_words}
use Rattle.capnp_frame.specs.SegmentTable.{FitsField, zero_padded_table}
use Rattle.capnp_frame.specs.declared.serialize.segment_table.TheConstants.{SEGMENTS_COUNT_LIMIT}

-- what a writer asks of a message: 1 to 2 ^ 32 - 1 segments, each of whole words and fewer than 2 ^ 32 of them
pub record IsWritable (segments : List (List ℕ)) : Type 0 where
  pub some : 0 < length segments
  pub few : length segments < 2 ^ 32
  pub whole : AllByRecursion IsWholeWords segments
  pub each : AllByRecursion FitsField (lengths segments)

-- no more segments than a reader accepts
abbrev pub IsWithinSegmentLimit : List (List ℕ) → Type 0
IsWithinSegmentLimit segments = length segments < SEGMENTS_COUNT_LIMIT

-- more than that
abbrev pub IsPastSegmentLimit : List (List ℕ) → Type 0
IsPastSegmentLimit segments = SEGMENTS_COUNT_LIMIT ≤ length segments

-- there are more, and the failure carries their number
abbrev pub SegmentCountError : List (List ℕ) → ErrorKind → Type 0
SegmentCountError segments kind = IsPastSegmentLimit segments × (kind ≡ InvalidNumberOfSegments (length segments))

-- the first word, and the other words as one chunk where there are any
abbrev pub word_and_rest : List ℕ → List (List ℕ)
word_and_rest table = if nat_lt 8 (length table) then take 8 table ∷ drop 8 table ∷ [] else take 8 table ∷ []

-- the chunks of a table
abbrev pub table_chunks : List ℕ → List (List ℕ)
table_chunks ns = word_and_rest (zero_padded_table ns)

-- what is handed to a sink, in order
abbrev pub chunks : List (List ℕ) → List (List ℕ)
chunks segments = table_chunks (lengths segments) ++ segments

-- how many words a message takes with its table; the table of no segments is one word
abbrev pub serialized_words : List (List ℕ) → ℕ
serialized_words segments = length segments / 2 + 1 + size_in_words segments
