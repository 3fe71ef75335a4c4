-- What C's structs mean (src/reading). Whatever the bytes are and whatever a reader says, its
-- message is one list of segments.
use Rattle.std.specs.Prelude.{◌≡◌, ℕ, ◌+◌, ◌/◌, ◌<◌, ◌≤◌, ◌⊎◌, ◌==◌, if◌then◌else◌, List, Option, Some, None, drop, take, length, map}
use Rattle.std.specs.Simd.{first_chunks}
use Rattle.capnp_frame.specs.declared.error.ErrorKind.{ErrorKind}
use Rattle.capnp_frame.specs.declared.error.ErrorKind.TheVariants.{ReadLimitExceeded}
use Rattle.capnp_frame.specs.Prelude.{table_size}
use Rattle.capnp_layout.specs.Prelude.{message_of, number_of, places, less, Within, Form, null, struct, numbers, pointers, structs}
use Rattle.capnp_layout.specs.declared.place.Place.{Place}
use Rattle.capnp_wire.specs.Prelude.{Pointer, Struct, Shows, Reads, IsStruct, IsText, IsData, IsInvalidPointer}
use Rattle.capnp_c.specs.Options.{limit_of_number}
use Rattle.capnp_c.specs.Segments.{segments_from}
use Rattle.capnp_c.specs.declared.reading.place.LinsjoarPlace.{LinsjoarPlace}
use Rattle.capnp_c.specs.declared.reading.reader.LinsjoarReader.{LinsjoarReader}
use Rattle.capnp_c.specs.declared.reading.structs.LinsjoarStruct.{LinsjoarStruct}

-- the bytes have room for a table of as many segments as the reader says
abbrev pub HasTableOf : LinsjoarReader → List ℕ → Type 0
HasTableOf reader bytes = (0 < reader.segments) × (reader.segments < 512) × (table_size reader.segments ≤ length bytes)

-- the segments of a reader's message in these bytes
abbrev pub segments_in : LinsjoarReader → List ℕ → List (List ℕ)
segments_in reader bytes = segments_from reader.begins reader.segments bytes

-- the message
abbrev pub message_in : LinsjoarReader → List ℕ → List (List ℕ)
message_in reader bytes = message_of (segments_in reader bytes)

-- the place that C keeps; a flag of 0 says that no pointer is there
abbrev pub place_of : LinsjoarPlace → Option Place
place_of pointer = if pointer.is_there == 0 then None else Some (record { segment = pointer.segment; word = pointer.word })

-- the pointer there, in a message that is read within a limit of words
abbrev pub pointer_by : List (List ℕ) → Option ℕ → LinsjoarPlace → Pointer
pointer_by message limit pointer = record { message = message; place = place_of pointer; nesting = pointer.nesting; limit = limit }

-- and in the message of a reader, within what is left of its limit
abbrev pub pointer_read : LinsjoarReader → List ℕ → LinsjoarPlace → Pointer
pointer_read reader bytes pointer = pointer_by (message_in reader bytes) (limit_of_number reader.words_left) pointer

-- the words of a given number of bytes from a byte of the message on; the last one is filled up with zeros
abbrev pub words_at : List ℕ → ℕ → ℕ → List ℕ
words_at bytes start len = map (number_of 256) (first_chunks 8 ((len + 7) / 8) (take len (drop start bytes)))

-- the struct that C keeps, of a message in these bytes that is read within a limit of words
abbrev pub struct_by : List (List ℕ) → Option ℕ → List ℕ → LinsjoarStruct → Struct
struct_by message limit bytes fields = record {
  message = message;
  words = words_at bytes fields.start fields.data_len;
  children = places fields.first.segment fields.first.word fields.pointers;
  nesting = fields.first.nesting;
  limit = limit;
}

-- what is written for the struct that a pointer points to: it, and its data lie within the bytes
abbrev pub ShowsStruct : Pointer → List ℕ → LinsjoarStruct → Type 0
ShowsStruct pointer bytes fields = IsStruct pointer (struct_by pointer.message pointer.limit bytes fields) × (fields.start + fields.data_len ≤ length bytes)

-- what is written for a text, and for data: these bytes, and they lie within the bytes of the message
abbrev pub ShowsText : Pointer → List ℕ → ℕ → ℕ → Type 0
ShowsText pointer bytes start len = Reads pointer (λ form. IsText form (take len (drop start bytes))) × (start + len ≤ length bytes)

abbrev pub ShowsData : Pointer → List ℕ → ℕ → ℕ → Type 0
ShowsData pointer bytes start len = Reads pointer (λ form. IsData form (take len (drop start bytes))) × (start + len ≤ length bytes)

-- this number of words is left of the limit after what is there was counted
abbrev pub TakesOff : Pointer → ℕ → Type 0
TakesOff pointer words_left = Shows pointer (λ shape. limit_of_number words_left ≡ less pointer.limit shape.traversed)

-- what is there has more words than the limit leaves
abbrev pub PassesLimit : Pointer → ErrorKind → Type 0
PassesLimit pointer kind = Shows pointer (λ shape. Within pointer.limit shape.traversed → ⊥) × (kind ≡ ReadLimitExceeded)

-- it can't be read: no object is there, or its words pass the limit
abbrev pub EnterError : Pointer → ErrorKind → Type 0
EnterError pointer kind = IsInvalidPointer pointer kind ⊎ PassesLimit pointer kind

-- or a call rejects it
abbrev pub ReadError : Pointer → (Form → ErrorKind → Type 0) → ErrorKind → Type 0
ReadError pointer form_error kind = EnterError pointer kind
    ⊎ Shows pointer (λ shape. Within pointer.limit shape.traversed × form_error shape.form kind)

-- a call accepts what is there, and its words are within the limit
abbrev pub IsReadable : Pointer → (Form → Type 0) → Type 0
IsReadable pointer takes = Shows pointer (λ shape. takes shape.form × Within pointer.limit shape.traversed)

-- the numbers of a kind of object: 0 for null, 1 for a struct, 2 for a list with the code of its elements
abbrev pub HasKind : Form → ℕ → ℕ → Type 0
HasKind null kind code = (kind ≡ 0) × (code ≡ 0)
HasKind (struct words) kind code = (kind ≡ 1) × (code ≡ 0)
HasKind (numbers elements_code values) kind code = (kind ≡ 2) × (code ≡ elements_code)
HasKind pointers kind code = (kind ≡ 2) × (code ≡ 6)
HasKind (structs d p elements) kind code = (kind ≡ 2) × (code ≡ 7)
