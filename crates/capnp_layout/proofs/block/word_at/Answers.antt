-- A word of a segment is the number of its eight bytes.
use Rattle.std.proofs.Common.{ℕ, ◌/◌, length, Some, slice_index_or, List, [], w64, sym, ◌∙◌, ap, arith}
use Rattle.std.specs.Int.{from_le_bytes}
use Rattle.capnp_layout.proofs.words.WordsOfBytesLemmas.{word_of_chunk}
use Rattle.capnp_layout.proofs.block.word_at.Goals as goal

pub returns : goal.returns
returns c =
    let bytes = c.args.segment.now in
    word_of_chunk (length bytes / 8) bytes c.args.index [] (omega arith) c.requires
    ∙ ap Some (ap (λ (x : List (List ℕ)). from_le_bytes w64 (slice_index_or x c.args.index [])) (sym c.as_chunks.ensures.front) ∙ sym c.from_le_bytes.ensures)
