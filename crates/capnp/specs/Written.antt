-- What writers add to sinks.
use Rattle.std.specs.List.{AllByRecursion}
use Rattle.std.specs.Prelude.{◌≡◌, ◌⊎◌, ℕ, ◌*◌, List, [], ◌∷◌, ◌++◌, map, Result, OnOk, OnErr, IfErr}
use Rattle.capnp_frame.specs.declared.error.Error.{Error}
use Rattle.capnp_frame.specs.declared.error.ErrorKind.{ErrorKind}
use Rattle.capnp_frame.specs.declared.error.ErrorKind.TheVariants.{DeviceFailed}
use Rattle.capnp_frame.specs.declared.io.Write.{Ghosts}
use Rattle.capnp_frame.specs.Prelude.{FailsOr, frame_bytes, Appending, Leaving, Declining, ChunksError, Adds, AppendsAll, LeavesSome, Grows, IfKnown, Fails, TakesGranted, KeepsCount, UnwrittenError, IsWithinSegmentLimit, IsPastSegmentLimit, SegmentCountError, chunks, serialized_words}
use Rattle.capnp_build.specs.Prelude.{Built, used_of}
use Rattle.capnp_pack.specs.Prelude.{IsPackedEncoding, AppendsPacked, LeavesPacked, PackedChunkError}
use Rattle.capnp.specs.declared.streams.Format.{Format}
use Rattle.capnp.specs.declared.streams.Format.TheVariants.{Framed, Packed}

-- a plain sink adds exactly the chunk
abbrev pub IsPlainSink : Appending → Type 0
IsPlainSink appends = (chunk encoding : List ℕ) → appends chunk encoding → encoding ≡ chunk

-- the encoding that is written of a message, framed and packed
abbrev pub IsFrameEncoding : List (List ℕ) → List ℕ → Type 0
IsFrameEncoding message encoding = encoding ≡ frame_bytes message

abbrev pub IsPackedEncodingOf : List (List ℕ) → List ℕ → Type 0
IsPackedEncodingOf message encoding = IsPackedEncoding encoding message

abbrev pub IsEncodingOf : Format → List (List ℕ) → List ℕ → Type 0
IsEncodingOf Framed = IsFrameEncoding
IsEncodingOf Packed = IsPackedEncodingOf

-- what is written of a message that is built: the used words of each segment
abbrev pub output_of : {A : Type 0} → Built A → List (List ℕ)
output_of built = map used_of built.spaces

-- why a writer fails: its device fails, or the sink fails for one of the chunks. Or, before it writes, there
-- are more segments than a reader accepts, or an allocation fails (from four segments on).
abbrev pub WriterError : Declining → List (List ℕ) → ErrorKind → Type 0
WriterError refuses message kind = (kind ≡ DeviceFailed) ⊎ ChunksError refuses (chunks message) kind ⊎ UnwrittenError message kind

-- what a chunk adds to a sink in this format, what a call that fails leaves of it, and with which
-- kinds it may fail
abbrev pub AppendsAs : Format → Appending → Appending
AppendsAs Framed appends = appends
AppendsAs Packed appends = AppendsPacked appends

abbrev pub LeavesAs : Format → Appending → Leaving → Leaving
LeavesAs Framed appends leaves = leaves
LeavesAs Packed appends leaves = LeavesPacked appends leaves

abbrev pub ErrorsAs : Format → Declining → Declining
ErrorsAs Framed refuses = refuses
ErrorsAs Packed refuses = PackedChunkError refuses

-- what a writer adds for a message, and what is left of it where the writer fails
abbrev pub AppendsMessage : Format → Appending → List (List ℕ) → List ℕ → Type 0
AppendsMessage format appends message = AppendsAll (AppendsAs format appends) (chunks message)

abbrev pub LeavesMessage : Format → Appending → Leaving → List (List ℕ) → List ℕ → Type 0
LeavesMessage format appends leaves message = LeavesSome (AppendsAs format appends) (LeavesAs format appends leaves) (chunks message)

-- What each writer of a message does to its sink, in this format. `sink` is what is seen of the sink (the members of the
-- trait Write), `old` and `new` are the sink before the call and after it.
pub record WritesMessage {S X : Type 0} (format : Format) (sink : Ghosts S) (old new : S) (message : List (List ℕ))
    (result : Result X Error) : Type 0 where
  -- it fails by the number of segments exactly where there are more than a reader accepts, and then the sink stays as it was
  pub count : KeepsCount message result
  pub unwritten : IsPastSegmentLimit message → new ≡ old
  -- a plain sink gets the encoding of the message
  pub encoding : IsPlainSink sink.appends → OnOk result (IfKnown (sink.written old) (sink.written new) (Adds (IsEncodingOf format message)))
  -- every sink gets what the message's chunks add, one after the other
  pub written : OnOk result (IfKnown (sink.written old) (sink.written new) (Adds (AppendsMessage format sink.appends message)))
  -- where it fails, what the first chunks add is written, and of the next one what the sink leaves
  -- of it, without a gap
  pub left : OnErr result (IfKnown (sink.written old) (sink.written new) (Adds (LeavesMessage format sink.appends sink.leaves message)))
  pub errors : IfErr result (λ error. WriterError (ErrorsAs format sink.refuses) message error.kind)
  -- a failure that isn't the sink's leaves the sink as it was
  pub untouched : FailsOr result (λ kind. ChunksError (ErrorsAs format sink.refuses) (chunks message) kind ⊎ (new ≡ old))
  -- `DeviceFailed` is returned only where the device failed
  pub failed : IfErr result (λ error. error.kind ≡ DeviceFailed → Fails (sink.failures old) (sink.failures new))
  -- what was written before stays at the front, also where the call fails
  pub grows : Grows sink.written sink.failures sink.same old new
  -- where the sink grants all bytes of the framed encoding, the message is written, unless there is an error
  -- before that
  pub granted : format ≡ Framed → TakesGranted sink.grants old new (8 * serialized_words message) (UnwrittenError message) result

-- one of these messages has more segments than a reader accepts, and the failure carries their
-- number
abbrev pub SegmentCountErrorIn : List (List (List ℕ)) → ErrorKind → Type 0
SegmentCountErrorIn [] kind = ⊥
SegmentCountErrorIn (m ∷ ms) kind = SegmentCountError m kind ⊎ SegmentCountErrorIn ms kind

-- why one of these messages isn't written
abbrev pub OneOfError : Declining → List (List (List ℕ)) → ErrorKind → Type 0
OneOfError refuses [] kind = ⊥
OneOfError refuses (m ∷ ms) kind = WriterError refuses m kind ⊎ OneOfError refuses ms kind

-- what is added for messages, one after the other
abbrev pub AppendsEach : (List (List ℕ) → List ℕ → Type 0) → List (List (List ℕ)) → List ℕ → Type 0
AppendsEach Writes [] encoding = encoding ≡ []
AppendsEach Writes (m ∷ ms) encoding = (first others : List ℕ) × Writes m first × AppendsEach Writes ms others × (encoding ≡ first ++ others)

-- A writer fails at this message with this kind, and leaves these bytes of it: none, unless the
-- device failed or the sink failed for a chunk.
pub record FailsAtMessage (format : Format) (appends : Appending) (leaves : Leaving) (refuses : Declining) (message : List (List ℕ)) (kind : ErrorKind)
    (encoding : List ℕ) : Type 0 where
  pub errors : WriterError (ErrorsAs format refuses) message kind
  pub left : LeavesMessage format appends leaves message encoding
  pub untouched : (kind ≡ DeviceFailed) ⊎ ChunksError (ErrorsAs format refuses) (chunks message) kind ⊎ (encoding ≡ [])

-- Of messages that are written one after the other, the first ones are added, and the writer of the
-- next one fails in this way.
abbrev pub FailsAmong : (List (List ℕ) → List ℕ → Type 0) → (List (List ℕ) → ErrorKind → List ℕ → Type 0) → List (List (List ℕ)) → ErrorKind → List ℕ → Type 0
FailsAmong Writes FailsOne [] kind encoding = ⊥
FailsAmong Writes FailsOne (m ∷ ms) kind encoding = FailsOne m kind encoding
    ⊎ ((first others : List ℕ) × Writes m first × FailsAmong Writes FailsOne ms kind others × (encoding ≡ first ++ others))

-- What writing messages one after the other does to a sink, in this format. `sink` is what is seen of the sink (the members of
-- the trait Write), `old` and `new` are the sink before the call and after it.
pub record WritesMessages {S X : Type 0} (format : Format) (sink : Ghosts S) (old new : S) (messages : List (List (List ℕ)))
    (result : Result X Error) : Type 0 where
  -- a plain sink gets the encodings of the messages
  pub encoding : IsPlainSink sink.appends → OnOk result (IfKnown (sink.written old) (sink.written new) (Adds (AppendsEach (IsEncodingOf format) messages)))
  -- every sink gets what the messages' chunks add
  pub written : OnOk result (IfKnown (sink.written old) (sink.written new) (Adds (AppendsEach (AppendsMessage format sink.appends) messages)))
  -- where it fails, the first messages are written, and the writer of the next one fails in this
  -- way, without a gap
  pub fails : IfErr result (λ error. IfKnown (sink.written old) (sink.written new)
      (Adds (FailsAmong (AppendsMessage format sink.appends) (FailsAtMessage format sink.appends sink.leaves sink.refuses) messages error.kind)))
  -- what is written has no more segments than a reader accepts
  pub few : OnOk result (AllByRecursion IsWithinSegmentLimit messages)
  -- it fails as the writer of one of them does
  pub errors : IfErr result (λ error. OneOfError (ErrorsAs format sink.refuses) messages error.kind)
  -- `DeviceFailed` is returned only where the device failed
  pub failed : IfErr result (λ error. error.kind ≡ DeviceFailed → Fails (sink.failures old) (sink.failures new))
  -- what was written before stays at the front, also where the call fails
  pub grows : Grows sink.written sink.failures sink.same old new
