-- Streams of packed messages (src/stream.rt).
use Rattle.std.specs.Prelude.{ℕ, List, length}
use Rattle.std.specs.List.{concat}
use Rattle.capnp_frame.specs.declared.io.Read.{Ghosts}
use Rattle.capnp_frame.specs.declared.serialize.segment_table.Padding.{Padding}
use Rattle.capnp_frame.specs.Prelude.{Outgrows, TakesForLengths, StreamRules, framed_rules}
use Rattle.capnp_pack.specs.PackedFrame.{PackedFound}
use Rattle.capnp_pack.specs.PackedSource.{Unpacks, ChunkError}

-- Packed messages, whose padding the rule accepts: each request is a packed chunk.
abbrev pub packed_rules : Padding → StreamRules
packed_rules rule = record (framed_rules rule Unpacks ChunkError) { finds = PackedFound rule }

-- Packed messages that are read into the memory of the message `kept`: none is taken for as many segments as it has, or for one, and
-- for as many bytes.
abbrev pub packed_reusing_rules : Padding → List (List ℕ) → StreamRules
packed_reusing_rules rule kept = record (packed_rules rule) { takes_memory = Outgrows (length kept) (length (concat kept)) rule Unpacks }

-- Packed messages whose segments are skipped: memory is taken for the lengths alone, where they are more than `kept`.
abbrev pub packed_skipping_rules : Padding → ℕ → StreamRules
packed_skipping_rules rule kept = record (packed_rules rule) { takes_memory = λ limit. TakesForLengths kept Unpacks }

-- what is seen of a source where each request is a packed chunk
abbrev pub packed_source : {S : Type 0} → Ghosts S → Ghosts S
packed_source source = record {
  unread = source.unread;
  failures = source.failures;
  gives = Unpacks;
  refuses = ChunkError;
  same = source.same;
}
