-- What the functions that write keep (src/serialize/writing.rt).
use Rattle.std.specs.Prelude.{◌≡◌, ℕ, ◌+◌, ◌*◌, ◌^◌, ◌≤◌, ◌⊎◌, ◌↔◌, List, length, Result, IfOk, OnOk, OnErr, IfErr, MatchResult}
use Rattle.capnp_frame.specs.declared.error.Error.{Error}
use Rattle.capnp_frame.specs.declared.error.ErrorKind.{ErrorKind}
use Rattle.capnp_frame.specs.declared.error.ErrorKind.TheVariants.{DeviceFailed, OutOfMemory, MessageSizeOverflow, InvalidNumberOfSegments}
use Rattle.capnp_frame.specs.declared.io.Write.{Ghosts}
use Rattle.capnp_frame.specs.Asking.{FailsOr}
use Rattle.capnp_frame.specs.Errors.{FailsWith}
use Rattle.capnp_frame.specs.Frame.{frame_bytes}
use Rattle.capnp_frame.specs.Sink.{Adds, AppendsAll, LeavesSome, ChunksError, Grows}
use Rattle.capnp_frame.specs.Source.{IfKnown, Fails}
use Rattle.capnp_frame.specs.Writing.{IsWithinSegmentLimit, IsPastSegmentLimit, SegmentCountError, chunks, serialized_words}

-- What each function that writes does to its sink. `sink` is what is seen of the sink (the members of the
-- trait Write), `old` and `new` are the sink before the call and after it. `adds` says what is added where
-- the call succeeds, `leaves` what is added where it fails, and `own_kinds` which kinds it may fail with in
-- addition to the device's.
pub record WritesTo {S X : Type 0} (sink : Ghosts S) (old new : S) (adds leaves : List ℕ → Type 0) (own_kinds : ErrorKind → Type 0)
    (result : Result X Error) : Type 0 where
  -- where the call succeeds, this is added after what was written before
  pub written : OnOk result (IfKnown (sink.written old) (sink.written new) (Adds adds))
  -- where it fails, bytes for which `leaves` holds are added after what was written before
  pub left : OnErr result (IfKnown (sink.written old) (sink.written new) (Adds leaves))
  -- it fails with the device's failure, or with one of `own_kinds`
  pub errors : FailsOr result own_kinds
  -- `DeviceFailed` is returned only where the device failed
  pub failed : IfErr result (λ error. error.kind ≡ DeviceFailed → Fails (sink.failures old) (sink.failures new))
  -- what was written before stays at the front, also where the call fails
  pub grows : Grows sink.written sink.failures sink.same old new

-- What writing chunks, one after the other, does to a sink. `early` says which kinds the call may
-- fail with before anything is written.
pub record WritesChunks {S X : Type 0} (sink : Ghosts S) (old new : S) (chunks : List (List ℕ)) (early : ErrorKind → Type 0)
    (result : Result X Error) : Type 0 where
  -- where the call succeeds, what the chunks add is after what was written before
  pub written : OnOk result (IfKnown (sink.written old) (sink.written new) (Adds (AppendsAll sink.appends chunks)))
  -- where it fails, the first chunks are added, and of the next one what the sink leaves of it,
  -- without a gap
  pub left : OnErr result (IfKnown (sink.written old) (sink.written new) (Adds (LeavesSome sink.appends sink.leaves chunks)))
  -- it fails with the device's failure, with a kind of the sink's for one of the chunks, or with a kind for
  -- which `early` holds
  pub errors : FailsOr result (λ kind. ChunksError sink.refuses chunks kind ⊎ early kind)
  -- a failure that isn't the sink's leaves the sink as it was
  pub untouched : FailsOr result (λ kind. ChunksError sink.refuses chunks kind ⊎ (new ≡ old))
  -- `DeviceFailed` is returned only where the device failed
  pub failed : IfErr result (λ error. error.kind ≡ DeviceFailed → Fails (sink.failures old) (sink.failures new))
  -- what was written before stays at the front, also where the call fails
  pub grows : Grows sink.written sink.failures sink.same old new

-- Where a sink grants this many bytes and more, the call succeeds, and the more stays granted. Or it fails
-- with a kind for which `early` holds, and the sink is as it was.
abbrev pub TakesGranted : {S X : Type 0} → (S → ℕ → Type 0) → S → S → ℕ → (ErrorKind → Type 0) → Result X Error → Type 0
TakesGranted grants old new bytes early result = (more : ℕ) → grants old (bytes + more)
    → MatchResult result (λ written. grants new more) (λ error. early error.kind × (new ≡ old))

-- no kind at all: the call doesn't fail
abbrev pub NoError : ErrorKind → Type 0
NoError kind = ⊥

-- from four segments on, the call may be out of memory for the table
abbrev pub TableMemoryError : List (List ℕ) → ErrorKind → Type 0
TableMemoryError segments kind = (4 ≤ length segments) × (kind ≡ OutOfMemory)

-- why a call fails before anything is written: by the number of segments, or out of memory for the table
abbrev pub UnwrittenError : List (List ℕ) → ErrorKind → Type 0
UnwrittenError segments kind = SegmentCountError segments kind ⊎ TableMemoryError segments kind

-- What each function that writes a message keeps of the number of its segments.
pub record KeepsCount {X : Type 0} (segments : List (List ℕ)) (result : Result X Error) : Type 0 where
  -- what is written has no more segments than a reader accepts
  pub few : OnOk result (IsWithinSegmentLimit segments)
  -- where there are more, the call fails by their number, before all else
  pub many : IsPastSegmentLimit segments → FailsWith result (InvalidNumberOfSegments (length segments))

-- What each function that writes a message does to its sink.
pub record WritesSegments {S X : Type 0} (sink : Ghosts S) (old new : S) (segments : List (List ℕ)) (result : Result X Error) : Type 0 where
  -- it fails by the number of segments exactly where there are more than a reader accepts, and then the sink stays as it was
  pub count : KeepsCount segments result
  pub unwritten : IsPastSegmentLimit segments → new ≡ old
  -- else the chunks of the message are written, one after the other
  pub parts : WritesChunks sink old new (chunks segments) (UnwrittenError segments) result
  -- where the sink grants all bytes of the framed encoding, the message is written, but for these failures before it
  pub granted : TakesGranted sink.grants old new (8 * serialized_words segments) (UnwrittenError segments) result

-- What each function keeps that returns the framed encoding of a message; `bytes` is how the
-- encoding is seen in the result.
pub record ReturnsEncoding {X : Type 0} (segments : List (List ℕ)) (bytes : X → List ℕ) (result : Result X Error) : Type 0 where
  pub encoding : IfOk result (λ encoding. bytes encoding ≡ frame_bytes segments)
  -- the call fails by the number of segments exactly where there are more than a reader accepts
  pub count : KeepsCount segments result
  -- with no more than that it fails with `OutOfMemory` alone
  pub kinds : IfErr result (λ error. SegmentCountError segments error.kind ⊎ (error.kind ≡ OutOfMemory))

-- What each function that counts the words of a framed encoding keeps.
pub record CountsWords (segments : List (List ℕ)) (result : Result ℕ Error) : Type 0 where
  pub size : IfOk result (λ words. words ≡ serialized_words segments)
  -- the call fails exactly where the number of words does not fit
  pub overflow : FailsWith result MessageSizeOverflow ↔ (2 ^ 64 ≤ serialized_words segments)
  pub kinds : IfErr result (λ error. error.kind ≡ MessageSizeOverflow)
