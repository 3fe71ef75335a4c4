-- Packed messages: the table's first word, its other words, and the segments are packed each by itself.
-- Encoding document, "Packing" and "Serialization Over a Stream".
use Rattle.std.specs.Prelude.{◌≡◌, ℕ, List, ◌++◌, length, take, drop}
use Rattle.std.specs.List.{concat, AllByRecursion}
use Rattle.capnp_frame.specs.Prelude.{IsWholeWords, lengths, IsTable, zero_padded_table, AppendsAll}
use Rattle.capnp_frame.specs.declared.serialize.segment_table.Padding.{Padding}
use Rattle.capnp_pack.specs.Chunk.{IsChunk}
use Rattle.capnp_pack.specs.Packed.{Packs}

-- `encoding` is three chunks, joined: of the table's first word, of its other words, and of all
-- segments joined. The rule accepts the table's padding.
pub record IsPackedFrame (rule : Padding) (encoding : List ℕ) (segments : List (List ℕ)) : Type 0 where
  pub first : List ℕ
  pub others : List ℕ
  pub one_word : length first ≡ 8
  pub table : IsTable rule (first ++ others) (lengths segments)
  pub whole : AllByRecursion IsWholeWords segments
  pub first_encoding : List ℕ
  pub others_encoding : List ℕ
  pub segments_encoding : List ℕ
  pub first_packed : IsChunk first_encoding first
  pub others_packed : IsChunk others_encoding others
  pub segments_packed : IsChunk segments_encoding (concat segments)
  pub spelled : encoding ≡ first_encoding ++ others_encoding ++ segments_encoding

-- the table whose padding is zero: its first word, and its other words
abbrev pub table_first : List (List ℕ) → List ℕ
table_first segments = take 8 (zero_padded_table (lengths segments))

abbrev pub table_others : List (List ℕ) → List ℕ
table_others segments = drop 8 (zero_padded_table (lengths segments))

-- The encoding that is written: what a packer makes of the first word of this table, of its other
-- words, and of each segment.
pub record IsPackedEncoding (encoding : List ℕ) (segments : List (List ℕ)) : Type 0 where
  pub first_encoding : List ℕ
  pub others_encoding : List ℕ
  pub segments_encoding : List ℕ
  pub first_packed : Packs (table_first segments) first_encoding
  pub others_packed : Packs (table_others segments) others_encoding
  pub each_packed : AppendsAll Packs segments segments_encoding
  pub spelled : encoding ≡ first_encoding ++ others_encoding ++ segments_encoding

-- a packed encoding of the message is at the front
abbrev pub PackedFound : Padding → List (List ℕ) → List ℕ → List ℕ → Type 0
PackedFound rule segments raw rest = (encoding : List ℕ) × IsPackedFrame rule encoding segments × (raw ≡ encoding ++ rest)
