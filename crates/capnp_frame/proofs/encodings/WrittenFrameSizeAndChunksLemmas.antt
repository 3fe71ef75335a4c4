-- The frame that is written of a message: its size, and the chunks that are joined to it.
use Rattle.std.proofs.Common.{◌≡◌, ℕ, ◌+◌, ◌*◌, ◌/◌, ◌<◌, ◌≤◌, ◌^◌, ◌⊎◌, inl, inr, List, [], ◌∷◌, ◌++◌, length, take, drop, ap, ◌∙◌, arith, length-append}
use Rattle.std.proofs.lemmas.List.{append-nil, take_all, take-append-drop}
use Rattle.std.proofs.lemmas.List.Folds.{concat-append}
use Rattle.std.proofs.lemmas.List.Sums.{sum_by-cons}
use Rattle.std.proofs.lemmas.Bool.{cases_lt}
use Rattle.std.specs.Prelude.{Some, sum}
use Rattle.std.specs.List.{concat, AllByRecursion}
use Rattle.capnp_frame.specs.declared.error.ErrorKind.{ErrorKind}
use Rattle.capnp_frame.specs.declared.error.ErrorKind.TheVariants.{DeviceFailed, OutOfMemory}
use Rattle.capnp_frame.specs.Prelude.{lengths, size_in_words, FitsField, zero_padded_table, HasTable, frame_bytes, IfKnown, Fails, Adds, AppendsAll, AppendsSame, ByKind, ChunksError, UnwrittenError, IsWritable, IsWithinSegmentLimit, SegmentCountError, word_and_rest, chunks, serialized_words}
use Rattle.capnp_frame.specs.declared.serialize.segment_table.Padding.TheVariants.{Zero}
use Rattle.capnp_frame.proofs.encodings.PlainRequestsTakeFrameLemmas.{zero_padded_is, length-table, length-segments}
use Rattle.capnp_frame.proofs.sources.JoinedCallsAdvanceSourceLemmas.{never_fails}
use Rattle.capnp_frame.proofs.encodings.UniqueDivisionIntoEncodingsLemmas.{chunks_joined}
use Rattle.capnp_frame.proofs.sinks.JoinedChunkListLemmas.{length-lengths}
use Rattle.capnp_frame.proofs.sinks.TableFilledFieldByFieldLemmas.{parts_one, parts_two}

pub HasTable-writable : (segments : List (List ℕ)) → IsWritable segments → HasTable (lengths segments)
HasTable-writable segments writable =
    let count = length-lengths segments in
    let some = writable.some in
    let few = writable.few in
    record { some = omega arith; count = omega arith; each = writable.each }

-- a framed encoding has this number of words
pub length-frame_bytes : (segments : List (List ℕ)) → IsWritable segments → length (frame_bytes segments) ≡ 8 * serialized_words segments
length-frame_bytes segments writable =
    let table = zero_padded_table (lengths segments) in
    let long = length-table table (lengths segments) (zero_padded_is Zero (lengths segments) (HasTable-writable segments writable)) in
    let body = length-segments segments writable.whole in
    let count = length-lengths segments in
    length-append table (concat segments) ∙ sizes (length table) (length (concat segments)) (length (lengths segments)) (length segments) (size_in_words segments) long body count
  where
    sizes : (table body many count words : ℕ) → table ≡ 8 + 8 * (many / 2) → body ≡ 8 * words → many ≡ count → table + body ≡ 8 * (count / 2 + 1 + words)
    sizes table body many count words long all same = omega arith

concat-word_and_rest : (table : List ℕ) → concat (word_and_rest table) ≡ table
concat-word_and_rest table = elim (cases_lt 8 (length table)) [
  | inl more ↦ ap concat (parts_two table more) ∙ ap (λ l. take 8 table ++ l) (append-nil (drop 8 table)) ∙ take-append-drop 8 table
  | inr no_more ↦ ap concat (parts_one table no_more) ∙ append-nil (take 8 table) ∙ take_all 8 table no_more
]

-- the chunks, joined, are the frame
pub concat-chunks : (segments : List (List ℕ)) → concat (chunks segments) ≡ frame_bytes segments
concat-chunks segments =
    let table = zero_padded_table (lengths segments) in
    concat-append (word_and_rest table) segments ∙ ap (λ l. l ++ concat segments) (concat-word_and_rest table)

-- what a plain sink has after the chunks of a message
pub written_frame : (segments : List (List ℕ)) (old new : List ℕ) → old ≡ [] → IfKnown (Some old) (Some new) (Adds (AppendsAll AppendsSame (chunks segments))) → new ≡ frame_bytes segments
written_frame segments old new empty p = p.2 ∙ ap (λ l. l ++ p.0) empty ∙ (chunks_joined (chunks segments) p.0).0 p.1 ∙ concat-chunks segments

memory_chunk_error : (xs : List (List ℕ)) (kind : ErrorKind) → ChunksError (ByKind OutOfMemory) xs kind → kind ≡ OutOfMemory
memory_chunk_error [] kind p = absurd p
memory_chunk_error (x ∷ xs) kind (inl p) = p
memory_chunk_error (x ∷ xs) kind (inr p) = memory_chunk_error xs kind p

-- writing a message to a vector fails only for too many segments, or when out of memory
pub vector_memory_alone : (segments : List (List ℕ)) (kind : ErrorKind) → (kind ≡ DeviceFailed → Fails 0 0)
    → (kind ≡ DeviceFailed) ⊎ ChunksError (ByKind OutOfMemory) (chunks segments) kind ⊎ UnwrittenError segments kind
    → SegmentCountError segments kind ⊎ (kind ≡ OutOfMemory)
vector_memory_alone segments kind failed (inl device) = absurd (never_fails kind failed device)
vector_memory_alone segments kind failed (inr (inl chunk_errors)) = inr (memory_chunk_error (chunks segments) kind chunk_errors)
vector_memory_alone segments kind failed (inr (inr (inl many))) = inl many
vector_memory_alone segments kind failed (inr (inr (inr memory))) = inr memory.1

-- numbers that fit a field, added up
pub sum_below : (ns : List ℕ) → AllByRecursion FitsField ns → sum ns ≤ length ns * 2 ^ 32
sum_below [] each = omega arith
sum_below (n ∷ ns) each =
    let total : sum (n ∷ ns) ≡ n + sum ns = sum_by-cons (λ x. x) n ns in
    let others = sum_below ns each.1 in
    let first : n < 2 ^ 32 = each.0 in
    omega (arith, total, others, first)

-- as many segments as a reader accepts have fewer than 2 ^ 64 bytes, with the table
pub few_fit : (segments : List (List ℕ)) → IsWritable segments → IsWithinSegmentLimit segments → 8 * serialized_words segments < 2 ^ 64
few_fit segments writable few = omega (arith, sum_below (lengths segments) writable.each, length-lengths segments)
