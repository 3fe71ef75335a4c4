-- A word of a segment is the number of its eight bytes.
use Rattle.std.proofs.Common.{◌≡◌, ℕ, ◌/◌, ◌<◌, ◌≤◌, length, nat_lt, false, Some, slice_index_or, List, w64, sym, ◌∙◌, ap, arith}
use Rattle.std.specs.Int.{from_le_bytes}
use borrow.Author.Tests.{ltb-true, ltb-false}
use Rattle.capnp_layout.proofs.words.WordsOfBytesLemmas.{word_of_chunk, no_word}
use Rattle.capnp_layout.proofs.place.word.Goals as goal

pub returns-in-Some-clause-value : goal.returns-in-Some-clause-value
returns-in-Some-clause-value c =
    let bytes = c.args.segment.now in
    let lookup = c.in-Some.ensures.lookup in
    let within : c.args.index < length bytes / 8 = omega (arith, ltb-true, lookup.0, c.as_chunks.ensures.front_len) in
    ap Some (c.from_le_bytes.ensures ∙ ap (from_le_bytes w64) (lookup.1 ∙ ap (λ (x : List (List ℕ)). slice_index_or x c.args.index c.in-Some.word.now) c.as_chunks.ensures.front))
    ∙ sym (word_of_chunk (length bytes / 8) bytes c.args.index c.in-Some.word.now (omega arith) within)

pub returns-in-None-clause-value : goal.returns-in-None-clause-value
returns-in-None-clause-value c =
    let bytes = c.args.segment.now in
    let chunks = c.as_chunks.result.0.now in
    let test : nat_lt c.args.index (length chunks) ≡ false = sym c.in-None.ensures.lookup.0 in
    let past : length bytes / 8 ≤ c.args.index = omega (arith, ltb-false _ _ test, c.as_chunks.ensures.front_len) in
    let front = c.as_chunks.ensures.front in
    sym (no_word (length bytes / 8) bytes c.args.index past)
