-- What a writer adds to a sink, to a plain one the message's encoding, and with which errors it fails. A message
-- that was read can be written.
use Rattle.std.proofs.Common.{◌≡◌, ◌⊎◌, ◌≤◌, inl, inr, ℕ, Option, Result, Ok, Err, OnOk, OnErr, IfOk, IfErr, List, [], ◌∷◌, length, ◌*◌, ap, sym, ◌∙◌, arith}
use Rattle.std.specs.List.{AllByRecursion}
use Rattle.capnp_frame.specs.declared.error.Error.{Error}
use Rattle.capnp_frame.specs.declared.error.ErrorKind.{ErrorKind}
use Rattle.capnp_frame.specs.declared.error.ErrorKind.TheVariants.{DeviceFailed, OutOfMemory}
use Rattle.capnp_frame.specs.Prelude.{KeepsLimit, IsWithin, IsWholeWords, lengths, FailsOr, IfKnown, Fails, Appending, Declining, ChunksError, Adds, AppendsAll, AppendsSame, Grows, KeepsCount, WritesSegments, IsWritable, IsWithinSegmentLimit, IsPastSegmentLimit, chunks, serialized_words}
use Rattle.capnp_frame.specs.declared.io.Write.{Ghosts}
use Rattle.capnp_frame.proofs.sources.JoinedRequestPartsLemmas.{IfKnown-weaker}
use Rattle.capnp_frame.proofs.encodings.WrittenFrameSizeAndChunksLemmas.{concat-chunks, length-frame_bytes}
use Rattle.capnp_frame.proofs.encodings.UniqueDivisionIntoEncodingsLemmas.{chunks_joined}
use Rattle.capnp_frame.proofs.sinks.JoinedChunkListLemmas.{length-lengths}
use Rattle.capnp_pack.specs.Prelude.{AppendsPacked, PackedChunkError}
use Rattle.capnp_pack.proofs.encodings.PlainSinkEncodingLemmas.{packed_chunks_are_encoding}
use Rattle.capnp.specs.declared.streams.Format.TheVariants.{Framed, Packed}
use Rattle.capnp.specs.Prelude.{IsPlainSink, IsFrameEncoding, IsPackedEncodingOf, WriterError, AppendsMessage, LeavesMessage, WritesMessage}

-- a plain sink gets the chunks themselves
AppendsAll-plain : (appends : Appending) (xs : List (List ℕ)) (encoding : List ℕ) → IsPlainSink appends → AppendsAll appends xs encoding → AppendsAll AppendsSame xs encoding
AppendsAll-plain appends [] encoding plain all = all
AppendsAll-plain appends (x ∷ xs) encoding plain (first, others, here, more, e) = (first, others, plain x first here, AppendsAll-plain appends xs others plain more, e)

AppendsAll-packed : (appends : Appending) (xs : List (List ℕ)) (encoding : List ℕ) → IsPlainSink appends → AppendsAll (AppendsPacked appends) xs encoding → AppendsAll (AppendsPacked AppendsSame) xs encoding
AppendsAll-packed appends [] encoding plain all = all
AppendsAll-packed appends (x ∷ xs) encoding plain (first, others, here, more, e) =
    (first, others, (here.0, here.1, AppendsAll-plain appends here.0 first plain here.2), AppendsAll-packed appends xs others plain more, e)

-- so it gets the encoding of a message, framed and packed
pub frame_bytes_added : (appends : Appending) → IsPlainSink appends → (message : List (List ℕ)) (encoding : List ℕ) → AppendsAll appends (chunks message) encoding → IsFrameEncoding message encoding
frame_bytes_added appends plain message encoding all = (chunks_joined (chunks message) encoding).0 (AppendsAll-plain appends (chunks message) encoding plain all) ∙ concat-chunks message

pub packed_encoding_added : (appends : Appending) → IsPlainSink appends → (message : List (List ℕ)) (encoding : List ℕ) → AppendsAll (AppendsPacked appends) (chunks message) encoding → IsPackedEncodingOf message encoding
packed_encoding_added appends plain message encoding all = (packed_chunks_are_encoding message encoding).0 (AppendsAll-packed appends (chunks message) encoding plain all)

-- what is added is what is weaker
pub Adds-weaker : {X : Type 0} {P Q : List ℕ → Type 0} (r : Result X Error) (old new : Option (List ℕ)) → ((encoding : List ℕ) → P encoding → Q encoding) → OnOk r (IfKnown old new (Adds P)) → OnOk r (IfKnown old new (Adds Q))
Adds-weaker (Err e) old new weaker added = tt
Adds-weaker (Ok x) old new weaker added = IfKnown-weaker old new (λ before after (encoding, p, e). (encoding, weaker encoding p, e)) added

-- a message that was read can be written
pub IsWritable-within : (message : List (List ℕ)) (limit : Option ℕ) → IsWithin message limit → AllByRecursion IsWholeWords message → IsWritable message
IsWritable-within message limit within whole =
    let some = within.some in
    let few = within.few in
    record {
      some = omega (arith, length-lengths message);
      few = omega (arith, length-lengths message);
      whole = whole;
      each = within.each;
    }

-- a message that keeps the limit of words, and that a writer took, is one that a reader accepts
pub IsWithin-written : (message : List (List ℕ)) (limit : Option ℕ) → IsWritable message → IsWithinSegmentLimit message → KeepsLimit (lengths message) limit → IsWithin message limit
IsWithin-written message limit writable few size =
    let count = length-lengths message in
    let some = writable.some in
    record { some = omega arith; few = omega arith; each = writable.each; size = size }

-- where a message was read, a writer's failure is an error of the run: it has not too many segments
pub writer_error : {X : Type 0} (L : Type 0) (refuses : Declining) (message : List (List ℕ)) (limit : Option ℕ) (r : Result X Error) → IsWithin message limit
    → IfErr r (λ e. WriterError refuses message e.kind)
    → IfErr r (λ e. (e.kind ≡ DeviceFailed) ⊎ ((e.kind ≡ OutOfMemory) × (4 ≤ length message)) ⊎ L ⊎ ChunksError refuses (chunks message) e.kind)
writer_error L refuses message limit (Ok x) within errors = tt
writer_error L refuses message limit (Err e) within (inl device) = inl device
writer_error L refuses message limit (Err e) within (inr (inl chunk_errors)) = inr (inr (inr chunk_errors))
writer_error L refuses message limit (Err e) within (inr (inr (inl many))) =
    let some = many.0 in let few = within.few in absurd (omega (arith, length-lengths message))
writer_error L refuses message limit (Err e) within (inr (inr (inr memory))) = inr (inl (memory.1, memory.0))

-- the size of an encoding that was written
pub encoding_size : (r : Result ℕ Error) (message : List (List ℕ)) → IsWritable message → IfOk r (λ words. words ≡ serialized_words message)
    → IfOk r (λ words. (encoding : List ℕ) → IsFrameEncoding message encoding → length encoding ≡ 8 * words)
encoding_size (Err e) message writable size = tt
encoding_size (Ok words) message writable size = λ encoding is. ap length is ∙ length-frame_bytes message writable ∙ ap (λ (n : ℕ). 8 * n) (sym size)

-- what the engine writes of a message, framed
pub frame_written : {S X : Type 0} (sink : Ghosts S) (old new : S) (message : List (List ℕ)) (r : Result X Error)
    → WritesSegments sink old new message r → WritesMessage Framed sink old new message r
frame_written sink old new message r reported = record {
  count = reported.count;
  unwritten = reported.unwritten;
  encoding = λ plain. Adds-weaker r _ _ (frame_bytes_added sink.appends plain message) reported.parts.written;
  written = reported.parts.written;
  left = reported.parts.left;
  errors = reported.parts.errors;
  untouched = reported.parts.untouched;
  failed = reported.parts.failed;
  grows = reported.parts.grows;
  granted = λ framed. reported.granted;
}

-- what stays of a packer stays of its sink
kept_below : {S P X : Type 0} (see : P → S) (Errors : ErrorKind → Type 0) (old new : P) (r : Result X Error)
    → FailsOr r (λ kind. Errors kind ⊎ (new ≡ old)) → FailsOr r (λ kind. Errors kind ⊎ (see new ≡ see old))
kept_below see Errors old new (Ok x) reported = tt
kept_below see Errors old new (Err e) (inl failed) = inl failed
kept_below see Errors old new (Err e) (inr (inl chunk_errors)) = inr (inl chunk_errors)
kept_below see Errors old new (Err e) (inr (inr same)) = inr (inr (ap see same))

packed_is_not_framed : Packed ≡ Framed → ⊥
packed_is_not_framed same = cc

-- and packed, by a packer in which the sink is seen
pub packed_written : {S P X : Type 0} (sink : Ghosts S) (see : P → S) (old new : P) (message : List (List ℕ)) (r : Result X Error)
    → KeepsCount message r → (IsPastSegmentLimit message → new ≡ old) → OnOk r (IfKnown (sink.written (see old)) (sink.written (see new)) (Adds (AppendsMessage Packed sink.appends message)))
    → OnErr r (IfKnown (sink.written (see old)) (sink.written (see new)) (Adds (LeavesMessage Packed sink.appends sink.leaves message)))
    → IfErr r (λ e. WriterError (PackedChunkError sink.refuses) message e.kind)
    → FailsOr r (λ kind. ChunksError (PackedChunkError sink.refuses) (chunks message) kind ⊎ (new ≡ old))
    → IfErr r (λ e. e.kind ≡ DeviceFailed → Fails (sink.failures (see old)) (sink.failures (see new)))
    → Grows sink.written sink.failures sink.same (see old) (see new) → WritesMessage Packed sink (see old) (see new) message r
packed_written sink see old new message r count unwritten written left errors untouched failed grows = record {
  count = count;
  unwritten = λ many. ap see (unwritten many);
  encoding = λ plain. Adds-weaker r _ _ (packed_encoding_added sink.appends plain message) written;
  written = written;
  left = left;
  errors = errors;
  untouched = kept_below see (ChunksError (PackedChunkError sink.refuses) (chunks message)) old new r untouched;
  failed = failed;
  grows = grows;
  granted = λ framed. absurd (packed_is_not_framed framed);
}
