-- What is packed of a message, and what is kept by the steps that pack its chunks.
use Rattle.std.specs.Prelude.{◌≡◌, ℕ, ◌+◌, ◌⊎◌, List, [], ◌∷◌, length, Result, OnOk, IfErr, IsOk}
use Rattle.capnp_frame.specs.declared.error.Error.{Error}
use Rattle.capnp_frame.specs.declared.error.ErrorKind.TheVariants.{DeviceFailed}
use Rattle.capnp_frame.specs.declared.io.Write.{Ghosts}
use Rattle.capnp_frame.specs.declared.message.options.ReaderOptions.{ReaderOptions}
use Rattle.capnp_frame.specs.Prelude.{Adds, AppendsAll, ChunksError, Grows, IfKnown, Fails}
use Rattle.capnp_pack.specs.Prelude.{Packs, table_first, table_others, AppendsPacked, PackedChunkError}
use Rattle.capnp_c.specs.Fronts.{IsAtFront}

-- the bytes are a framed encoding of the message, and no more
abbrev pub IsMessage : ReaderOptions → List ℕ → List (List ℕ) → Type 0
IsMessage options bytes segments = IsAtFront options bytes segments []

-- what is packed of a message, chunk by chunk: the first word of its table, the table's other words, and each segment
abbrev pub packed_chunks : List (List ℕ) → List (List ℕ)
packed_chunks segments = table_first segments ∷ table_others segments ∷ segments

-- What a step that packs chunks into a sink, one after the other, keeps. `sink` is what is seen of the sink
-- (the members of the trait Write); `old` and `new` are the sink before the call and after it.
pub record PacksChunks {S X : Type 0} (sink : Ghosts S) (old new : S) (chunks : List (List ℕ)) (result : Result X Error) : Type 0 where
  -- where it succeeds, the packed encoding of each chunk is added
  pub packed : OnOk result (IfKnown (sink.written old) (sink.written new) (Adds (AppendsAll (AppendsPacked sink.appends) chunks)))
  -- it fails with the device's failure, or with the error of one of the chunks
  pub errors : IfErr result (λ error. (error.kind ≡ DeviceFailed) ⊎ ChunksError (PackedChunkError sink.refuses) chunks error.kind)
  -- `DeviceFailed` is returned only where the device failed
  pub failed : IfErr result (λ error. error.kind ≡ DeviceFailed → Fails (sink.failures old) (sink.failures new))
  -- where the sink grants the packed encoding, the step succeeds
  pub granted : (encoding : List ℕ) (more : ℕ) → AppendsAll Packs chunks encoding → sink.grants old (length encoding + more)
      → IsOk result × sink.grants new more
  pub grows : Grows sink.written sink.failures sink.same old new
