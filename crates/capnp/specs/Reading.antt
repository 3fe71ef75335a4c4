-- What is read of a stream in memory, and which errors say that it is cut (src/streams/reading.rt).
use Rattle.std.specs.Prelude.{◌≡◌, ◌⊎◌, ◌<◌, ◌≤◌, ◌-◌, ◌^◌, ◌↔◌, ℕ, List, length, drop, Option, Some, None, Bool, IsTrue, IsSomeAnd}
use Rattle.capnp_frame.specs.declared.error.Error.{Error}
use Rattle.capnp_frame.specs.declared.error.ErrorKind.{ErrorKind}
use Rattle.capnp_frame.specs.declared.error.ErrorKind.TheVariants.{FailedToFillTheWholeBuffer, OutOfMemory, PrematureEndOfPackedInput}
use Rattle.capnp_frame.specs.declared.serialize.segment_table.Padding.{Padding}
use Rattle.capnp_frame.specs.Prelude.{AreEncodings}
use Rattle.capnp.specs.declared.streams.Format.{Format}
use Rattle.capnp.specs.Streams.{grammar_of, FoundNext, TakesForNext, EndsBy, IsStream}

-- the kind of an error, if there is one
abbrev pub kind_of : Option Error → Option ErrorKind
kind_of None = None
kind_of (Some error) = Some error.kind

abbrev pub IsMemoryError : Option Error → Type 0
IsMemoryError reason = kind_of reason ≡ Some OutOfMemory

-- a reader fails with this kind where its source ends within a message
abbrev pub IsCutKind : ErrorKind → Type 0
IsCutKind kind = (kind ≡ FailedToFillTheWholeBuffer) ⊎ (kind ≡ PrematureEndOfPackedInput)

abbrev pub IsCut : Option Error → Type 0
IsCut reason = IsSomeAnd reason (λ error. IsCutKind error.kind)

abbrev pub TellsCut : Option Error → Bool → Type 0
TellsCut reason reported = IsTrue reported ↔ IsCut reason

-- memory is taken for the next message of these bytes: to read it, or, once it is read, for its place in a list
abbrev pub TakesForListed : Padding → Format → Option ℕ → List ℕ → Type 0
TakesForListed rule format limit rest = TakesForNext rule format limit rest
    ⊎ ((message : List (List ℕ)) × (left : List ℕ) × FoundNext rule format limit message rest left)

-- Why no further message is read of a stream that `rest` is left of: an allocation failed where memory is
-- taken, or the stream ends, or its reader fails. A list of 2^64 - 1 messages takes no further one; a stream
-- of fewer bytes has fewer.
abbrev pub EndsReading : Padding → Format → Option ℕ → Option Error → List ℕ → List ℕ → Type 0
EndsReading rule format limit reason stream rest =
    (IsMemoryError reason × (length stream < 2 ^ 64 - 1 → TakesForListed rule format limit rest)) ⊎ EndsBy rule format limit (kind_of reason) rest

-- What is read of a stream in memory: messages, where the last of them ends, and why no further one
-- was read, if the stream doesn't end there.
pub record ReadsEach (rule : Padding) (format : Format) (limit : Option ℕ) (stream : List ℕ) (messages : List (List (List ℕ))) (end : ℕ)
    (reason : Option Error) : Type 0 where
  -- the messages are the first `end` bytes
  pub within : end ≤ length stream
  pub encodings : AreEncodings (grammar_of rule format) limit messages stream (drop end stream)
  -- and there the stream ends, or its reader fails with this kind, or an allocation failed where memory is
  -- taken
  pub ends : EndsReading rule format limit reason stream (drop end stream)
  -- memory is taken only where there are bytes
  pub some : IsMemoryError reason → 0 < length stream
  -- so it is the only list of messages that the stream is, unless an allocation failed
  pub exact : (listed : List (List (List ℕ))) (ending : Option ErrorKind) → IsStream rule format limit listed ending stream
      → IsMemoryError reason ⊎ (messages ≡ listed) × (kind_of reason ≡ ending)
