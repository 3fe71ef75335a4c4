-- A message that is a whole buffer, packed into another one: that has its one packed encoding, or no room for it.
use Rattle.std.proofs.Common.{◌≡◌, ℕ, ◌+◌, ◌<◌, ◌≤◌, ◌⊎◌, inl, inr, List, [], ◌∷◌, ◌++◌, length, take, drop, sym, ap, ◌∙◌, subst, arith, append_assoc, length-append, length-take}
use Rattle.std.proofs.lemmas.List.{take_at}
use Rattle.std.specs.List.{concat}
use Rattle.capnp_frame.specs.declared.error.ErrorKind.{ErrorKind}
use Rattle.capnp_frame.specs.declared.error.ErrorKind.TheVariants.{DeviceFailed, BufferNotLargeEnough}
use Rattle.capnp_frame.specs.declared.message.options.ReaderOptions.{ReaderOptions}
use Rattle.capnp_frame.specs.Prelude.{lengths, zero_padded_table, table_size, ByKind, Adds, AppendsAll, AppendsSame, ChunksError, Fails}
use Rattle.capnp_frame.proofs.sources.JoinedCallsAdvanceSourceLemmas.{never_fails}
use Rattle.capnp_frame.proofs.encodings.PlainRequestsTakeFrameLemmas.{length-table}
use Rattle.capnp_frame.proofs.tables.UniqueTableLengthsLemmas.{zero_table}
use Rattle.capnp_frame.proofs.encodings.UniqueDivisionIntoEncodingsLemmas.{frames_part}
use Rattle.capnp_frame.proofs.sinks.JoinedChunkListLemmas.{length-lengths}
use Rattle.capnp_pack.specs.Prelude.{Packs, IsPackedEncoding, AppendsPacked, PackedChunkError}
use Rattle.capnp_pack.proofs.encodings.PlainSinkEncodingLemmas.{packed_message, each_packed}
use Rattle.capnp_pack.proofs.packing.WordsPackUniquelyAndUnpackLemmas.{Packs-once, Packs-whole}
use Rattle.capnp_c.specs.Fronts.{IsAtFront}
use Rattle.capnp_c.specs.Packing.{packed_chunks}

-- its table is at the front
pub front_table : (options : ReaderOptions) (bytes : List ℕ) (segments : List (List ℕ)) (rest : List ℕ) → IsAtFront options bytes segments rest
    → (take (table_size (length segments)) bytes ≡ zero_padded_table (lengths segments))
    × (table_size (length segments) + length rest ≤ length bytes)
front_table options bytes segments rest front =
    let frame = front.is_encoding in
    let table = frame.table in
    let long = length-table table (lengths segments) frame.lengths_declared in
    let many = length-lengths segments in
    let size : length table ≡ table_size (length segments) = omega arith in
    let spelled : bytes ≡ table ++ (concat segments ++ rest) = front.spelled ∙ ap (λ l. l ++ rest) frame.spelled ∙ append_assoc table (concat segments) rest in (
      ap (take (table_size (length segments))) spelled ∙ take_at table (concat segments ++ rest) (table_size (length segments)) size
          ∙ zero_table table (lengths segments) frame.lengths_declared,
      omega (arith, ap length spelled, length-append table (concat segments ++ rest), length-append (concat segments) rest),
    )

-- and the bytes after it are determined
pub one_rest : (options : ReaderOptions) (bytes rest left : List ℕ) (segments others : List (List ℕ)) → IsAtFront options bytes segments rest → IsAtFront options bytes others left → rest ≡ left
one_rest options bytes rest left segments others p q = (frames_part p.encoding q.encoding rest left segments others p.is_encoding q.is_encoding (sym p.spelled ∙ q.spelled)).2

-- The packed encoding

-- it is what the chunks are packed to
pub encoding_of_chunks : (segments : List (List ℕ)) (encoding : List ℕ) → IsPackedEncoding encoding segments → AppendsAll Packs (packed_chunks segments) encoding
encoding_of_chunks segments encoding packed = (each_packed (packed_chunks segments) encoding).0 ((packed_message segments encoding).1 packed)

-- and there is one
pub chunks_once : (chunks : List (List ℕ)) (encoding other : List ℕ) → AppendsAll Packs chunks encoding → AppendsAll Packs chunks other → encoding ≡ other
chunks_once [] encoding other p q = p ∙ sym q
chunks_once (chunk ∷ chunks) encoding other (s, t, first, more, e) (u, v, also, others, is) =
    e ∙ ap (λ l. l ++ t) (Packs-once chunk s u first also) ∙ ap (λ l. u ++ l) (chunks_once chunks t v more others) ∙ sym is

-- what was added to nothing is that encoding
pub message_alone : (segments : List (List ℕ)) (table old new : List ℕ) (n used : ℕ) → table ≡ zero_padded_table (lengths segments) → n ≡ 0
    → Adds (AppendsAll (AppendsPacked AppendsSame) (take 8 table ∷ drop 8 table ∷ segments)) (take n old) (take used new)
    → IsPackedEncoding (take used new) segments
message_alone segments table old new n used is none (encoding, all, e) =
    let alone : take used new ≡ encoding = e ∙ ap (λ k. take k old ++ encoding) none in
    let chunks = subst (λ l. AppendsAll (AppendsPacked AppendsSame) (take 8 l ∷ drop 8 l ∷ segments) encoding) is all in
    subst (λ l. IsPackedEncoding l segments) (sym alone) ((packed_message segments encoding).0 chunks)

-- so a block that is shorter does not hold it
pub message_fits : (segments : List (List ℕ)) (encoding block : List ℕ) (n : ℕ) → IsPackedEncoding encoding segments → length block < length encoding → IsPackedEncoding (take n block) segments → ⊥
message_fits segments encoding block n packed short written =
    let same = chunks_once (packed_chunks segments) encoding (take n block) (encoding_of_chunks segments encoding packed) (encoding_of_chunks segments (take n block) written) in
    absurd (omega (arith, short, ap length same, length-take n block))

-- chunks of whole words fail only where the block has no room
chunks_error : (chunks : List (List ℕ)) (encoding : List ℕ) (kind : ErrorKind) → AppendsAll Packs chunks encoding
    → ChunksError (PackedChunkError (ByKind BufferNotLargeEnough)) chunks kind → kind ≡ BufferNotLargeEnough
chunks_error [] encoding kind all errors = absurd errors
chunks_error (chunk ∷ chunks) encoding kind (s, t, first, more, e) (inl (inl (part, is))) = absurd (part (Packs-whole chunk s first))
chunks_error (chunk ∷ chunks) encoding kind (s, t, first, more, e) (inl (inr (whole, (any, is)))) = is
chunks_error (chunk ∷ chunks) encoding kind (s, t, first, more, e) (inr errors) = chunks_error chunks t kind more errors

pub message_error : (segments : List (List ℕ)) (table encoding : List ℕ) (kind : ErrorKind) → table ≡ zero_padded_table (lengths segments) → IsPackedEncoding encoding segments
    → (kind ≡ DeviceFailed) ⊎ ChunksError (PackedChunkError (ByKind BufferNotLargeEnough)) (take 8 table ∷ drop 8 table ∷ segments) kind
    → (kind ≡ DeviceFailed → Fails 0 0) → kind ≡ BufferNotLargeEnough
message_error segments table encoding kind is packed (inl device) failed = absurd (never_fails kind failed device)
message_error segments table encoding kind is packed (inr errors) failed =
    chunks_error (packed_chunks segments) encoding kind (encoding_of_chunks segments encoding packed)
    (subst (λ l. ChunksError (PackedChunkError (ByKind BufferNotLargeEnough)) (take 8 l ∷ drop 8 l ∷ segments) kind) is errors)

-- the encoding of the chunks, by the table that is there
pub encoding_of_parts : (segments : List (List ℕ)) (table encoding : List ℕ) → table ≡ zero_padded_table (lengths segments) → IsPackedEncoding encoding segments
    → AppendsAll Packs (take 8 table ∷ drop 8 table ∷ segments) encoding
encoding_of_parts segments table encoding is packed = subst (λ l. AppendsAll Packs (take 8 l ∷ drop 8 l ∷ segments) encoding) (sym is) (encoding_of_chunks segments encoding packed)
