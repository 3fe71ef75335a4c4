-- What the exports that read a message in place return and write (src/reading).
use Rattle.std.specs.Prelude.{◌≡◌, ℕ, ◌+◌, ◌<◌, ◌≤◌, ◌^◌, ◌⊎◌, ⊤, pos, List, Option, Some, length, replicate}
use Rattle.capnp_frame.specs.declared.error.ErrorKind.{ErrorKind}
use Rattle.capnp_frame.specs.declared.message.options.ReaderOptions.{ReaderOptions}
use Rattle.capnp_frame.specs.Prelude.{kind_number}
use Rattle.capnp_layout.specs.Prelude.{Form, root, word_at, NoWord}
use Rattle.capnp_wire.specs.Prelude.{Pointer, Shows, IsInvalidPointer, pointer_in}
use Rattle.capnp_c.specs.Fronts.{IsAtFront, MessageError, root_within}
use Rattle.capnp_c.specs.Options.{limit_of_number}
use Rattle.capnp_c.specs.Segments.{group_begins}
use Rattle.capnp_c.specs.Reading.{HasTableOf, segments_in, message_in, pointer_by, pointer_read, struct_by, TakesOff, ReadError, IsReadable, HasKind}
use Rattle.capnp_c.specs.declared.reading.place.LinsjoarPlace.{LinsjoarPlace}
use Rattle.capnp_c.specs.declared.reading.reader.LinsjoarReader.{LinsjoarReader}
use Rattle.capnp_c.specs.declared.reading.structs.LinsjoarStruct.{LinsjoarStruct}

-- the place of no pointer, as where a call fails
abbrev pub no_place : LinsjoarPlace
no_place = record { word = 0; segment = 0; nesting = 0; is_there = 0 }

-- The reader that is written is one of the message at the front of these bytes.
pub record IsReaderOf (options : ReaderOptions) (bytes : List ℕ) (reader : LinsjoarReader) : Type 0 where
  pub segments : List (List ℕ)
  pub rest : List ℕ
  pub front : IsAtFront options bytes segments rest
  pub table : HasTableOf reader bytes
  pub segments_are : segments_in reader bytes ≡ segments
  pub begins : reader.begins ≡ group_begins reader.segments bytes
  pub len : reader.message_len + length rest ≡ length bytes
  pub limit : limit_of_number reader.words_left ≡ options.traversal_limit_in_words
  pub nesting : reader.nesting_limit ≡ options.nesting_limit

-- the reader of no message
abbrev pub no_reader : LinsjoarReader
no_reader = record { message_len = 0; words_left = 0; segments = 0; nesting_limit = pos 0; begins = replicate 31 0 }

-- A message is opened.
pub record OpensMessage (options : ReaderOptions) (bytes : List ℕ) (reader : LinsjoarReader) (result : ℕ) : Type 0 where
  pub found : result ≡ 0 → IsReaderOf options bytes reader
  pub accepted : (segments : List (List ℕ)) (rest : List ℕ) → IsAtFront options bytes segments rest → result ≡ 0
  pub errors : (kind : ErrorKind) → MessageError options bytes kind → result ≡ kind_number kind
  pub stays : 0 < result → reader ≡ no_reader

-- The root pointer of a reader's message is found. It is read within the reader's limit of nesting, and
-- whatever limit of words.
pub record FindsRoot (reader : LinsjoarReader) (bytes : List ℕ) (place : LinsjoarPlace) (result : ℕ) : Type 0 where
  pub no_table : (HasTableOf reader bytes → ⊥) → result ≡ 27
  pub found : result ≡ 0 → HasTableOf reader bytes × ((limit : Option ℕ) →
      pointer_by (message_in reader bytes) limit place ≡ root_within reader.nesting_limit limit (segments_in reader bytes))
  pub accepted : HasTableOf reader bytes → (word : ℕ) → word_at (message_in reader bytes) root ≡ Some word → result ≡ 0
  pub errors : HasTableOf reader bytes → (kind : ErrorKind) → NoWord (message_in reader bytes) root kind → result ≡ kind_number kind
  pub stays : 0 < result → place ≡ no_place

-- The kind of what a pointer points to is told, whatever limit of words is left.
pub record TellsKind (reader : LinsjoarReader) (bytes : List ℕ) (place : LinsjoarPlace) (kind code result : ℕ) : Type 0 where
  pub no_table : (HasTableOf reader bytes → ⊥) → result ≡ 27
  pub found : result ≡ 0 → HasTableOf reader bytes × Shows (pointer_read reader bytes place) (λ shape. HasKind shape.form kind code)
  pub accepted : HasTableOf reader bytes → Shows (pointer_read reader bytes place) (λ shape. ⊤) → result ≡ 0
  pub errors : HasTableOf reader bytes → (error : ErrorKind) → IsInvalidPointer (pointer_read reader bytes place) error → result ≡ kind_number error
  pub stays : 0 < result → (kind ≡ 0) × (code ≡ 0)

-- A pointer is followed, and what is there is counted. `shows` says what is then written, `takes` which
-- objects are read, `form_error` with which errors others are rejected, and `blank` what is written where the
-- call fails.
pub record Follows (old new : LinsjoarReader) (bytes : List ℕ) (place : LinsjoarPlace) (shows : Pointer → Type 0)
    (takes : Form → Type 0) (form_error : Form → ErrorKind → Type 0) (blank : Type 0) (result : ℕ) : Type 0 where
  pub no_table : (HasTableOf old bytes → ⊥) → result ≡ 27
  pub found : result ≡ 0 → HasTableOf old bytes × shows (pointer_read old bytes place)
  pub counted : result ≡ 0 → TakesOff (pointer_read old bytes place) new.words_left
  pub accepted : HasTableOf old bytes → IsReadable (pointer_read old bytes place) takes → result ≡ 0
  pub errors : HasTableOf old bytes → (kind : ErrorKind) → ReadError (pointer_read old bytes place) form_error kind → result ≡ kind_number kind
  pub only_words : new ≡ record old { words_left = new.words_left }
  pub stays : 0 < result → (new.words_left ≡ old.words_left) × blank

-- the struct of no data and no pointers, as where a call fails
abbrev pub no_struct : LinsjoarStruct
no_struct = record { start = 0; data_len = 0; first = no_place; pointers = 0 }

-- A pointer of a struct is found, whatever message the struct is of; it fails only where its word would
-- be past 64 bits.
pub record FindsPointer (fields : LinsjoarStruct) (index : ℕ) (place : LinsjoarPlace) (result : ℕ) : Type 0 where
  pub found : result ≡ 0 → (message : List (List ℕ)) (limit : Option ℕ) (bytes : List ℕ) →
      pointer_by message limit place ≡ pointer_in (struct_by message limit bytes fields) index
  pub accepted : (fields.pointers ≤ index) ⊎ (fields.first.word + index < 2 ^ 64) → result ≡ 0
  pub errors : index < fields.pointers → 2 ^ 64 ≤ fields.first.word + index → result ≡ 27
  pub stays : 0 < result → place ≡ no_place
