-- Messages at the front of a buffer, as readers with these options find them.
use Rattle.std.specs.Prelude.{◌≡◌, ◌+◌, ◌*◌, ◌<◌, ℕ, ℤ, true, List, Option, Some}
use Rattle.capnp_frame.specs.declared.error.ErrorKind.{ErrorKind}
use Rattle.capnp_frame.specs.declared.error.ErrorKind.TheVariants.{BufferNotLargeEnough}
use Rattle.capnp_frame.specs.declared.message.options.ReaderOptions.{ReaderOptions}
use Rattle.capnp_frame.specs.declared.serialize.segment_table.Padding.TheVariants.{Zero}
use Rattle.capnp_frame.specs.Prelude.{by_fields, FlatError, IsFrame, kind_number, BeginsWith}
use Rattle.capnp_layout.specs.Prelude.{message_of}
use Rattle.capnp_wire.specs.Prelude.{root, nesting_of, HasWords, WordsError, PointsToTree, WalkErrorFrom, Pointer}

-- a framed encoding of the message is at the front, and the message is within the limit of words
abbrev pub IsAtFront : ReaderOptions → List ℕ → List (List ℕ) → List ℕ → Type 0
IsAtFront options bytes segments rest = BeginsWith (IsFrame Zero) options.traversal_limit_in_words segments bytes rest

-- none is there, and the first line of the table of errors that holds has this kind
abbrev pub MessageError : ReaderOptions → List ℕ → ErrorKind → Type 0
MessageError options bytes kind = FlatError by_fields Zero options.traversal_limit_in_words kind bytes

-- the root of these segments, within a limit of nesting and a limit of words
abbrev pub root_within : ℤ → Option ℕ → List (List ℕ) → Pointer
root_within nesting limit segments = record { message = message_of segments; place = Some root; nesting = nesting_of nesting; limit = limit }

-- and within the limits of the options
abbrev pub root_by : ReaderOptions → List (List ℕ) → Pointer
root_by options segments = root_within options.nesting_limit options.traversal_limit_in_words segments

-- there is a canonical form of this many words, with its root pointer
abbrev pub RootHasForm : Pointer → ℕ → Type 0
RootHasForm pointer words = (following : ℕ) × HasWords (PointsToTree pointer) true following × (words ≡ following + 1)

-- It has none: a walk over the root's tree stops with this error, or the form has too many words.
abbrev pub RootCanonicalFormError : Pointer → ErrorKind → Type 0
RootCanonicalFormError pointer kind = WordsError (PointsToTree pointer) (WalkErrorFrom pointer) true kind

-- it has one, and a block of this many bytes has no room for it
abbrev pub IsShort : Pointer → ℕ → ErrorKind → Type 0
IsShort pointer room kind = (size : ℕ) × RootHasForm pointer size × (room < 8 * size) × (kind ≡ BufferNotLargeEnough)

-- Which number is returned by an export that measures or writes the canonical form of the message
-- at the front of these bytes. `has_room` says whether there is room for a form of a given number
-- of words.
pub record ReturnsFrontForm (options : ReaderOptions) (bytes : List ℕ) (has_room : ℕ → Type 0) (result : ℕ) : Type 0 where
  -- 0 where there is a message that has a form, and room for it
  pub accepted : (segments : List (List ℕ)) (rest : List ℕ) (size : ℕ) → IsAtFront options bytes segments rest
      → RootHasForm (root_by options segments) size → has_room size → result ≡ 0
  -- where the message has no form, the number of the error is returned
  pub errors : (segments : List (List ℕ)) (rest : List ℕ) (kind : ErrorKind) → IsAtFront options bytes segments rest
      → RootCanonicalFormError (root_by options segments) kind → result ≡ kind_number kind
  -- where no message is there, the number of the first line of the table of errors that holds is returned
  pub unreadable : (kind : ErrorKind) → MessageError options bytes kind → result ≡ kind_number kind
