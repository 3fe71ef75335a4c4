-- Words that are packed into a caller-provided buffer: it has their one encoding, or it has no room, as no device
-- can fail.
use Rattle.std.proofs.Common.{◌≡◌, ◌⊎◌, ◌<◌, ℕ, List, ◌++◌, length, take, inl, inr, sym, ap, ◌∙◌, subst, arith, length-take}
use Rattle.capnp_frame.specs.declared.error.ErrorKind.{ErrorKind}
use Rattle.capnp_frame.specs.declared.error.ErrorKind.TheVariants.{DeviceFailed, BufferNotLargeEnough}
use Rattle.capnp_frame.specs.Prelude.{ByKind, Adds, AppendsSame, Fails}
use Rattle.capnp_frame.proofs.sources.JoinedCallsAdvanceSourceLemmas.{never_fails}
use Rattle.capnp_pack.specs.Prelude.{Packs, AppendsPacked, PackedChunkError, ChunkError}
use Rattle.capnp_pack.proofs.encodings.PlainSinkEncodingLemmas.{packed_over_plain}
use Rattle.capnp_pack.proofs.packing.WordsPackUniquelyAndUnpackLemmas.{Packs-once, Packs-whole}

-- an error of a slice is a line of the table
pub slice_chunk_error : (raw : List ℕ) (n : ℕ) (kind : ErrorKind) → (kind ≡ DeviceFailed) ⊎ ChunkError raw n kind → (kind ≡ DeviceFailed → Fails 0 0) → ChunkError raw n kind
slice_chunk_error raw n kind (inl device) failed = absurd (never_fails kind failed device)
slice_chunk_error raw n kind (inr line) failed = line

-- whole words fail only where the block has no room
pub block_error : (words packed : List ℕ) (kind : ErrorKind) → Packs words packed → (kind ≡ DeviceFailed) ⊎ PackedChunkError (ByKind BufferNotLargeEnough) words kind
    → (kind ≡ DeviceFailed → Fails 0 0) → kind ≡ BufferNotLargeEnough
block_error words packed kind packs (inl device) failed = absurd (never_fails kind failed device)
block_error words packed kind packs (inr (inl (part, is))) failed = absurd (part (Packs-whole words packed packs))
block_error words packed kind packs (inr (inr (whole, (chunk, is)))) failed = is

-- and what was written is their one encoding
pub packed_fits : (words packed block : List ℕ) (n : ℕ) → Packs words packed → length block < length packed → Packs words (take n block) → ⊥
packed_fits words packed block n packs short written =
    absurd (omega (arith, short, ap length (Packs-once words packed (take n block) packs written), length-take n block))

-- what was added to nothing is that encoding
pub packed_alone : (words old new : List ℕ) (n used : ℕ) → n ≡ 0 → Adds (AppendsPacked AppendsSame words) (take n old) (take used new) → Packs words (take used new)
packed_alone words old new n used none (encoding, packed, e) =
    let alone : take used new ≡ encoding = e ∙ ap (λ k. take k old ++ encoding) none in
    subst (Packs words) (sym alone) ((packed_over_plain words encoding).0 packed)
