-- What the readers of a slice or of a buffer keep (src/serialize/buffer_segments.rt, src/serialize/no_alloc_buffer_segments.rt).
use Rattle.std.specs.Prelude.{◌≡◌, ℕ, ◌<◌, ◌⊎◌, List, length, Option, Some, None, Result, IsOk, IfOk, IfErr, OnErr, IfSome}
use Rattle.std.specs.Result.{IsErrAnd}
use denote.Ref.{Bor}
use Rattle.capnp_frame.specs.declared.error.Error.{Error}
use Rattle.capnp_frame.specs.declared.error.ErrorKind.{ErrorKind}
use Rattle.capnp_frame.specs.declared.error.ErrorKind.TheVariants.{EmptySlice, EmptyBuffer, OutOfMemory}
use Rattle.capnp_frame.specs.declared.serialize.segment_table.Padding.{Padding}
use Rattle.capnp_frame.specs.Frame.{IsFrame}
use Rattle.capnp_frame.specs.Encodings.{BeginsWith}
use Rattle.capnp_frame.specs.Views.{SeenBuffer}
use Rattle.capnp_frame.specs.FlatErrors.{FlatForm, by_words, by_fields, AcceptsSeveral, FlatError}

-- The rules by which a message is read: how its table is taken, the rule of padding, and the limit of words.
pub record FlatRules : Type 0 where
  pub form : FlatForm
  pub padding : Padding
  pub limit : Option ℕ

-- the rules of readers that take memory for the lengths of more than one segment, from a slice and from a buffer
abbrev pub slice_rules : Padding → Option ℕ → FlatRules
slice_rules rule limit = record { form = by_words EmptySlice; padding = rule; limit = limit }

abbrev pub buffer_rules : Padding → Option ℕ → FlatRules
buffer_rules rule limit = record { form = by_words EmptyBuffer; padding = rule; limit = limit }

-- the rules of readers that take no memory, from a slice or a buffer
abbrev pub no_alloc_rules : Padding → Option ℕ → FlatRules
no_alloc_rules rule limit = record { form = by_fields; padding = rule; limit = limit }

-- By these rules the bytes begin with a framed encoding of the message, and `rest` follows it.
abbrev pub FoundBy : FlatRules → List (List ℕ) → List ℕ → List ℕ → Type 0
FoundBy rules message bytes rest = BeginsWith (IsFrame rules.padding) rules.limit message bytes rest

-- by these rules, the first line of the table of errors that holds has this kind
abbrev pub RulesError : FlatRules → ErrorKind → List ℕ → Type 0
RulesError rules kind bytes = FlatError rules.form rules.padding rules.limit kind bytes

-- `fact` holds of what is left after a message: of a slice, what it has after the call; of a
-- buffer, some bytes.
abbrev pub Leaves : Option (List ℕ) → (List ℕ → Type 0) → Type 0
Leaves (Some left) fact = fact left
Leaves None fact = (rest : List ℕ) × fact rest

-- the condition `other`; for a reader that takes memory, `memory` or `other`
abbrev pub OrOutOfMemory : FlatForm → Type 0 → Type 0 → Type 0
OrOutOfMemory (by_words empty) memory other = memory ⊎ other
OrOutOfMemory by_fields memory other = other

-- where a message is, only a reader that takes memory may fail: with `OutOfMemory`, for more than one segment
abbrev pub AcceptsFlat : {X : Type 0} → FlatForm → List (List ℕ) → Result X Error → Type 0
AcceptsFlat (by_words empty) message result = IfErr result (λ error. (error.kind ≡ OutOfMemory) × (1 < length message))
AcceptsFlat by_fields message result = IsOk result

-- What each reader of bytes in memory keeps, by its rules. `left` is what a slice has after the
-- call, or none for a buffer, and `segments` is how the segments of what is returned are seen.
pub record ReadsFlat {X : Type 0} (rules : FlatRules) (bytes : List ℕ) (left : Option (List ℕ))
    (segments : X → List (List ℕ)) (result : Result X Error) : Type 0 where
  -- the message that is returned is at the front, within the limit, and a slice moves just past it
  pub found : IfOk result (λ found. Leaves left (FoundBy rules (segments found) bytes))
  -- a message that is there is returned, unless it has more than one segment and an allocation fails
  pub accepted : (message : List (List ℕ)) (rest : List ℕ) → FoundBy rules message bytes rest → AcceptsFlat rules.form message result
  -- a failure leaves a slice as it was
  pub unchanged : OnErr result (IfSome left (λ left. left ≡ bytes))
  -- a reader fails with `OutOfMemory` once a number of more than one segment is accepted, or with a line of the table
  pub errors : IfErr result (λ error. OrOutOfMemory rules.form
      ((error.kind ≡ OutOfMemory) × AcceptsSeveral rules.form bytes) (RulesError rules error.kind bytes))
  -- where a line is the first to hold, the call fails with that line's kind, unless an allocation fails
  pub exact : (kind : ErrorKind) → RulesError rules kind bytes
      → IsErrAnd result (λ error. OrOutOfMemory rules.form (error.kind ≡ OutOfMemory) (error.kind ≡ kind))

-- What a reader keeps that finds a message in a buffer: what is returned has the buffer.
pub record ReadsBuffer {B : Type 0} (rules : FlatRules) (kept : B) (bytes : List ℕ) (result : Result (SeenBuffer B) Error) : Type 0 where
  -- what the segments borrow is what was given
  pub buffer : IfOk result (λ found. found.buffer ≡ kept)
  -- the message that begins the bytes, or why none does
  pub reads : ReadsFlat rules bytes None (λ found. found.segments) result

-- And one that finds it at the front of a slice, and moves the slice after it.
pub record TakesSegments (rules : FlatRules) (old new : List ℕ) (result : Result (SeenBuffer (Bor (List ℕ))) Error) : Type 0 where
  -- the segments borrow the slice that was given
  pub buffer : IfOk result (λ found. found.buffer.now ≡ old)
  -- the message that begins the slice, or why none does, and what the slice has left
  pub reads : ReadsFlat rules old (Some new) (λ found. found.segments) result
