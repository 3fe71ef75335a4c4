-- Why a message is not written to memory, framed or packed: it has too many segments, or an allocation fails.
use Rattle.std.proofs.Common.{◌≡◌, ◌⊎◌, inl, inr, ℕ, ◌+◌, ◌*◌, ◌/◌, List, [], ◌∷◌, length, take, drop, arith}
use Rattle.std.proofs.lemmas.List.{length-take-le, length-drop}
use Rattle.std.specs.List.{AllByRecursion}
use Rattle.std.specs.Prelude.{nat_lt, Bool, true, false, cond}
use Rattle.capnp_frame.specs.declared.error.ErrorKind.{ErrorKind}
use Rattle.capnp_frame.specs.declared.error.ErrorKind.TheVariants.{DeviceFailed, OutOfMemory}
use Rattle.capnp_frame.specs.Prelude.{IsWholeWords, lengths, zero_padded_table, IsWritable, SegmentCountError, chunks, table_chunks, Declining, ByKind, AnyChunkError, ChunksError, Fails}
use Rattle.capnp_frame.specs.declared.serialize.segment_table.Padding.TheVariants.{Zero}
use Rattle.capnp_frame.proofs.sources.JoinedCallsAdvanceSourceLemmas.{never_fails}
use Rattle.capnp_frame.proofs.encodings.PlainRequestsTakeFrameLemmas.{zero_padded_is, length-table}
use Rattle.capnp_frame.proofs.encodings.WrittenFrameSizeAndChunksLemmas.{HasTable-writable}
use Rattle.capnp_pack.proofs.words.EachElementLemmas.{AllByRecursion-append}
use Rattle.capnp_pack.specs.Prelude.{PackedChunkError}
use Rattle.capnp.specs.declared.streams.Format.{Format}
use Rattle.capnp.specs.declared.streams.Format.TheVariants.{Framed, Packed}
use Rattle.capnp.specs.Prelude.{ErrorsAs, WriterError}

some_chunk_error : (refuses : Declining) (xs : List (List ℕ)) (kind : ErrorKind) → ChunksError refuses xs kind → AnyChunkError refuses kind
some_chunk_error refuses [] kind chunk_errors = absurd chunk_errors
some_chunk_error refuses (x ∷ xs) kind (inl here) = (x, here)
some_chunk_error refuses (x ∷ xs) kind (inr later) = some_chunk_error refuses xs kind later

packed_chunk_error : (refuses : Declining) (xs : List (List ℕ)) (kind : ErrorKind) → AllByRecursion IsWholeWords xs → ChunksError (PackedChunkError refuses) xs kind → AnyChunkError refuses kind
packed_chunk_error refuses [] kind whole chunk_errors = absurd chunk_errors
packed_chunk_error refuses (x ∷ xs) kind whole (inl (inl part)) = absurd (part.0 whole.0)
packed_chunk_error refuses (x ∷ xs) kind whole (inl (inr here)) = here.1
packed_chunk_error refuses (x ∷ xs) kind whole (inr later) = packed_chunk_error refuses xs kind whole.1 later

table_whole : (table : List ℕ) (words : ℕ) (more : Bool) → length table ≡ 8 + 8 * words → AllByRecursion IsWholeWords (cond more (take 8 table ∷ drop 8 table ∷ []) (take 8 table ∷ []))
table_whole table words true long =
    let first : length (take 8 table) ≡ 8 = length-take-le 8 table (omega arith) in
    (omega arith, (omega (arith, length-drop 8 table), tt))
table_whole table words false long =
    let first : length (take 8 table) ≡ 8 = length-take-le 8 table (omega arith) in
    (omega arith, tt)

chunks_whole : (segments : List (List ℕ)) → IsWritable segments → AllByRecursion IsWholeWords (chunks segments)
chunks_whole segments writable =
    let table = zero_padded_table (lengths segments) in
    let long = length-table table (lengths segments) (zero_padded_is Zero (lengths segments) (HasTable-writable segments writable)) in
    AllByRecursion-append IsWholeWords (table_chunks (lengths segments)) segments (table_whole table (length (lengths segments) / 2) (nat_lt 8 (length table)) long) writable.whole

-- why a message is not written to memory, framed and packed: it has too many segments, or an allocation fails
pub framed_memory : (message : List (List ℕ)) (kind : ErrorKind) → WriterError (ByKind OutOfMemory) message kind → (kind ≡ DeviceFailed → Fails 0 0)
    → SegmentCountError message kind ⊎ (kind ≡ OutOfMemory)
framed_memory message kind (inl device) failed = absurd (never_fails kind failed device)
framed_memory message kind (inr (inl chunk_errors)) failed = inr (some_chunk_error (ByKind OutOfMemory) (chunks message) kind chunk_errors).1
framed_memory message kind (inr (inr (inl many))) failed = inl many
framed_memory message kind (inr (inr (inr memory))) failed = inr memory.1

pub packed_memory : (message : List (List ℕ)) (kind : ErrorKind) → IsWritable message → WriterError (PackedChunkError (ByKind OutOfMemory)) message kind
    → (kind ≡ DeviceFailed → Fails 0 0) → SegmentCountError message kind ⊎ (kind ≡ OutOfMemory)
packed_memory message kind writable (inl device) failed = absurd (never_fails kind failed device)
packed_memory message kind writable (inr (inl chunk_errors)) failed =
    inr (packed_chunk_error (ByKind OutOfMemory) (chunks message) kind (chunks_whole message writable) chunk_errors).1
packed_memory message kind writable (inr (inr (inl many))) failed = inl many
packed_memory message kind writable (inr (inr (inr memory))) failed = inr memory.1

pub format_memory : (format : Format) (message : List (List ℕ)) (kind : ErrorKind) → IsWritable message
    → WriterError (ErrorsAs format (ByKind OutOfMemory)) message kind → (kind ≡ DeviceFailed → Fails 0 0) → SegmentCountError message kind ⊎ (kind ≡ OutOfMemory)
format_memory Framed message kind writable errors failed = framed_memory message kind errors failed
format_memory Packed message kind writable errors failed = packed_memory message kind writable errors failed
