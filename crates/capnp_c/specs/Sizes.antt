-- What the exports that tell how large a message is return and write (src/sizes.rt).
use Rattle.std.specs.Prelude.{◌≡◌, ℕ, ◌+◌, ◌-◌, ◌*◌, ◌/◌, ◌<◌, ◌≤◌, ◌++◌, List, [], None, length, replicate, sum, take}
use Rattle.capnp_frame.specs.declared.error.ErrorKind.{ErrorKind}
use Rattle.capnp_frame.specs.declared.error.ErrorKind.TheVariants.{MessageEndsPrematurely}
use Rattle.capnp_frame.specs.declared.message.options.ReaderOptions.{ReaderOptions}
use Rattle.capnp_frame.specs.declared.serialize.segment_table.Padding.TheVariants.{Zero}
use Rattle.capnp_frame.specs.Prelude.{AreWithin, DeclaresCount, KeepsLimit, KeepsPadding, declared_lengths, declared_padding, TableError, TableFound, kind_number, number, table_size}
use Rattle.capnp_frame.specs.declared.serialize.segment_table.TheConstants.{SEGMENTS_COUNT_LIMIT}
use Rattle.capnp_pack.specs.Prelude.{ChunkError, Unpacks}
use Rattle.capnp_c.specs.Fronts.{IsAtFront, MessageError}

-- how many segments a table declares, how many bytes it has, and how many the message has
abbrev pub declared_count : List ℕ → ℕ
declared_count table = number table + 1

abbrev pub declared_table_size : List ℕ → ℕ
declared_table_size table = table_size (declared_count table)

abbrev pub declared_size : List ℕ → ℕ
declared_size table = declared_table_size table + 8 * sum (declared_lengths (declared_count table) table)

-- A table that a reader accepts begins these bytes.
pub record IsAcceptedTable (options : ReaderOptions) (table : List ℕ) : Type 0 where
  pub few : declared_count table < 512
  pub keeps : KeepsLimit (declared_lengths (declared_count table) table) options.traversal_limit_in_words
  pub padding : KeepsPadding Zero (declared_padding (declared_count table) table)

-- None begins them: a reader fails, and not as where a message is cut.
abbrev pub IsRejectedTable : ReaderOptions → List ℕ → ErrorKind → Type 0
IsRejectedTable options table kind = MessageError options table kind × ((words there : ℕ) → kind ≡ MessageEndsPrematurely words there → ⊥)

-- the bytes of the longest table, where those that aren't there yet are zeros: no number that it declares is smaller
-- once they are there
abbrev pub table_front : List ℕ → List ℕ
table_front bytes = take 2048 bytes ++ replicate (2048 - length bytes) 0

-- It is told how many bytes the message has that begins here, or how many more have to be there to tell.
pub record TellsSize (options : ReaderOptions) (bytes : List ℕ) (message_len needed result : ℕ) : Type 0 where
  -- a message that is there is told
  pub found : (segments : List (List ℕ)) (rest : List ℕ) → IsAtFront options bytes segments rest
      → (result ≡ 0) × (message_len + length rest ≡ length bytes) × (needed ≡ 0)
  -- where its table is there, so are its bytes, and else those that its table lacks
  pub whole : result ≡ 0 → declared_table_size (table_front bytes) ≤ length bytes → (message_len ≡ declared_size (table_front bytes)) × (needed ≡ 0)
  pub cut : result ≡ 0 → length bytes < declared_table_size (table_front bytes)
      → (message_len ≡ 0) × (length bytes + needed ≡ declared_table_size (table_front bytes))
  -- 0 exactly where a message can begin like this; else the number of the reader's error
  pub accepted : IsAcceptedTable options (table_front bytes) → result ≡ 0
  pub errors : (kind : ErrorKind) → IsRejectedTable options (table_front bytes) kind → result ≡ kind_number kind
  -- where it fails no bytes that follow make a message of these
  pub never : 0 < result → (more : List ℕ) (segments : List (List ℕ)) (rest : List ℕ) → IsAtFront options (bytes ++ more) segments rest → ⊥
  pub stays : 0 < result → (message_len ≡ 0) × (needed ≡ 0)

-- The table of a packed message is unpacked: its first word, its other words, and zeros after them.
pub record UnpacksTable (packed table : List ℕ) : Type 0 where
  pub first : List ℕ
  pub others : List ℕ
  pub zeros : List ℕ
  pub between : List ℕ
  pub rest : List ℕ
  pub count : ℕ
  pub first_given : Unpacks packed 8 first between
  pub declared : DeclaresCount first count
  pub some : 0 < count
  pub few : count < SEGMENTS_COUNT_LIMIT
  pub others_given : Unpacks between (8 * (count / 2)) others rest
  pub table_is : table ≡ (first ++ others) ++ zeros
  pub long : length table ≡ 2048

-- It is told how many bytes the framed encoding of the packed message has that begins here.
pub record TellsUnpackedSize (options : ReaderOptions) (packed : List ℕ) (framed_len result : ℕ) : Type 0 where
  -- wherever the table of a message within the limit is there
  pub found : (ns rest : List ℕ) → TableFound Zero Unpacks ns packed rest → AreWithin ns options.traversal_limit_in_words
      → (result ≡ 0) × (framed_len ≡ table_size (length ns) + 8 * sum ns)
  -- 9 where there are no packed bytes
  pub none : packed ≡ [] → result ≡ 9
  -- where no such table is there, the number of the reader's error
  pub errors : (kind : ErrorKind) (left : List ℕ)
      → TableError Zero Unpacks ChunkError options.traversal_limit_in_words None kind packed left → result ≡ kind_number kind
  pub stays : 0 < result → framed_len ≡ 0
