-- What the exports that read a message within limits write and return, by the options of their
-- readers (src/framed.rt, src/packed_messages.rt, src/canonical.rt). `result` is the number that is
-- returned.
use Rattle.std.specs.Prelude.{⊤, ◌≡◌, ◌⊎◌, ◌+◌, ◌*◌, ◌<◌, ◌≤◌, ℕ, List, [], length, take, slice_get, Some}
use Rattle.capnp_frame.specs.declared.error.ErrorKind.{ErrorKind}
use Rattle.capnp_frame.specs.declared.message.options.ReaderOptions.{ReaderOptions}
use Rattle.capnp_frame.specs.declared.serialize.segment_table.Padding.TheVariants.{Zero}
use Rattle.capnp_frame.specs.Prelude.{IsWithin, lengths, size_in_words, kind_number, StreamError, table_size}
use Rattle.capnp_pack.specs.Prelude.{IsPackedEncoding, PackedFound, Unpacks, ChunkError}
use Rattle.capnp_layout.specs.Prelude.{words_of}
use Rattle.capnp_wire.specs.Prelude.{IsCanonicalForm}
use Rattle.capnp_c.specs.declared.framed.LinsjoarMessage.{LinsjoarMessage}
use Rattle.capnp_c.specs.Fronts.{IsAtFront, MessageError, root_by, RootHasForm, ReturnsFrontForm}
use Rattle.capnp_c.specs.Packing.{IsMessage}

-- The message at the front of the bytes is found.
pub record FindsMessage (options : ReaderOptions) (bytes : List ℕ) (message : LinsjoarMessage) (result : ℕ) : Type 0 where
  -- what is written where 0 is returned: how many segments it has, where the first one begins, and where the
  -- last one ends
  pub found : result ≡ 0 → (segments : List (List ℕ)) × (rest : List ℕ) × IsAtFront options bytes segments rest
      × (message.segments ≡ length segments) × (message.start ≡ table_size (length segments)) × (message.end + length rest ≡ length bytes)
  -- 0 wherever one is there
  pub accepted : (segments : List (List ℕ)) (rest : List ℕ) → IsAtFront options bytes segments rest → result ≡ 0
  -- where none is there, the number of the reader's error
  pub errors : (kind : ErrorKind) → MessageError options bytes kind → result ≡ kind_number kind
  -- each number that is written is 0 where anything else is returned
  pub stays : 0 < result → (message.segments ≡ 0) × (message.start ≡ 0) × (message.end ≡ 0)

-- The words of one of its segments are counted.
pub record CountsSegment (options : ReaderOptions) (bytes : List ℕ) (id words result : ℕ) : Type 0 where
  -- how many the segment has
  pub words_are : (segments : List (List ℕ)) (rest : List ℕ) → IsAtFront options bytes segments rest → result ≡ 0
      → slice_get (lengths segments) id ≡ Some words
  -- 0 where the message has a segment of this number
  pub accepted : (segments : List (List ℕ)) (rest : List ℕ) → IsAtFront options bytes segments rest → id < length segments → result ≡ 0
  -- 18 where it has none
  pub none : (segments : List (List ℕ)) (rest : List ℕ) → IsAtFront options bytes segments rest → length segments ≤ id → result ≡ 18
  -- where no message is there, the number of the reader's error
  pub errors : (kind : ErrorKind) → MessageError options bytes kind → result ≡ kind_number kind
  pub stays : 0 < result → words ≡ 0

-- The bytes of the message are counted, so that a caller can step to the next one.
pub record StepsOver (options : ReaderOptions) (bytes : List ℕ) (message_len result : ℕ) : Type 0 where
  -- where 0 is returned, there are no bytes, or the number is how many the message takes
  pub found : result ≡ 0 → (bytes ≡ []) ⊎ ((segments : List (List ℕ)) × (rest : List ℕ) × IsAtFront options bytes segments rest
      × (message_len + length rest ≡ length bytes))
  -- no bytes are no message, and no error
  pub end : bytes ≡ [] → (result ≡ 0) × (message_len ≡ 0)
  -- 0 wherever a message is there
  pub accepted : (segments : List (List ℕ)) (rest : List ℕ) → IsAtFront options bytes segments rest → (result ≡ 0) × (0 < message_len)
  -- where other bytes are there, the number of the reader's error
  pub errors : (kind : ErrorKind) → 0 < length bytes → MessageError options bytes kind → result ≡ kind_number kind
  pub stays : 0 < result → message_len ≡ 0

-- The message that the bytes are is packed to the front of a block.
pub record PacksMessage (options : ReaderOptions) (framed packed : List ℕ) (packed_len result : ℕ) : Type 0 where
  -- what is written where 0 is returned
  pub packed_is : result ≡ 0 → (segments : List (List ℕ)) × IsMessage options framed segments × IsPackedEncoding (take packed_len packed) segments
  pub within : packed_len ≤ length packed
  -- 0 where the bytes are a message, and its packed encoding has room
  pub accepted : (segments : List (List ℕ)) (encoding : List ℕ) → IsMessage options framed segments → IsPackedEncoding encoding segments
      → length encoding ≤ length packed → result ≡ 0
  -- 2 where there is no room for that
  pub short : (segments : List (List ℕ)) (encoding : List ℕ) → IsMessage options framed segments → IsPackedEncoding encoding segments
      → length packed < length encoding → result ≡ 2
  -- 6 where bytes follow the message
  pub trailing : (segments : List (List ℕ)) (rest : List ℕ) → IsAtFront options framed segments rest → 0 < length rest → result ≡ 6
  -- where no message is there, the number of the reader's error
  pub errors : (kind : ErrorKind) → MessageError options framed kind → result ≡ kind_number kind
  pub stays : 0 < result → packed_len ≡ 0

-- The packed message at the front of the bytes is unpacked to the front of a block.
pub record UnpacksMessage (options : ReaderOptions) (packed framed : List ℕ) (framed_len packed_read result : ℕ) : Type 0 where
  -- what is written where 0 is returned, and how many packed bytes were taken
  pub unpacked : result ≡ 0 → (segments : List (List ℕ)) × (rest : List ℕ) × PackedFound Zero segments packed rest
      × IsMessage options (take framed_len framed) segments × (packed_read + length rest ≡ length packed)
  pub within : framed_len ≤ length framed
  -- 0 where a message is there, and its framed encoding has room
  pub accepted : (segments : List (List ℕ)) (rest : List ℕ) → PackedFound Zero segments packed rest
      → IsWithin segments options.traversal_limit_in_words
      → table_size (length segments) + 8 * size_in_words segments ≤ length framed → result ≡ 0
  -- 9 where there are no packed bytes
  pub none : packed ≡ [] → 8 ≤ length framed → result ≡ 9
  -- where no message is there, or no room, the number of the reader's error
  pub errors : (kind : ErrorKind) (left : List ℕ)
      → StreamError Zero Unpacks ChunkError options.traversal_limit_in_words (Some (length framed)) kind packed left → result ≡ kind_number kind
  pub stays : 0 < result → (framed_len ≡ 0) × (packed_read ≡ 0)

-- The canonical form of the message at the front of the bytes is measured.
pub record MeasuresForm (options : ReaderOptions) (bytes : List ℕ) (words result : ℕ) : Type 0 where
  -- how many words it has
  pub size : (segments : List (List ℕ)) (rest : List ℕ) → IsAtFront options bytes segments rest → result ≡ 0
      → RootHasForm (root_by options segments) words
  pub returns : ReturnsFrontForm options bytes (λ size. ⊤) result
  pub stays : 0 < result → words ≡ 0

-- The canonical form is written to the front of a block.
pub record WritesCanonicalForm (options : ReaderOptions) (bytes block : List ℕ) (words result : ℕ) : Type 0 where
  -- what is written where 0 is returned
  pub form : (segments : List (List ℕ)) (rest : List ℕ) → IsAtFront options bytes segments rest → result ≡ 0
      → (8 * words ≤ length block) × IsCanonicalForm (root_by options segments) (words_of (take (8 * words) block))
  -- 2 where the block has no room for it
  pub short : (segments : List (List ℕ)) (rest : List ℕ) (size : ℕ) → IsAtFront options bytes segments rest
      → RootHasForm (root_by options segments) size → length block < 8 * size → result ≡ 2
  pub returns : ReturnsFrontForm options bytes (λ size. 8 * size ≤ length block) result
  pub stays : 0 < result → words ≡ 0
