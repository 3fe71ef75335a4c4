-- A value that is written into a zero part of a segment, of just its words: it has room there, and the part is
-- then its block.
use Rattle.std.proofs.Common.{◌≡◌, ℕ, ◌+◌, ◌-◌, ◌/◌, ◌%◌, ◌≤◌, Bool, List, ◌∷◌, ◌++◌, length, take, drop, ◌∙◌, ap, arith, length-take, length-drop, drop-drop}
use Rattle.std.specs.Prelude.{replicate}
use Rattle.capnp_frame.specs.Prelude.{bytes_of}
use Rattle.capnp_frame.specs.declared.words.Word.{Word}
use Rattle.capnp_layout.specs.Prelude.{number_of, words_of, Trees, total_words, body, output}
use Rattle.capnp_wire.specs.Prelude.{IsCopied, HasWords, HasRoomAt, IsFreeFrom}
use Rattle.capnp_wire.specs.declared.layout.copy.Copied.{Copied}
use Rattle.capnp_layout.proofs.words.WordsOfBytesLemmas.{length-words_of}
use Rattle.capnp_wire.proofs.layouts.ZeroFreePartLemmas.{free_part}
use Rattle.capnp_wire.proofs.layouts.NullAndNumbersWrittenLemmas.{has_room, whole_written}
use Rattle.capnp_build.specs.Prelude.{written, IsBlockOf}

part_words : (bytes : List ℕ) (from n : ℕ) → from + n ≤ length bytes → length (words_of (take n (drop from bytes))) ≡ n / 8
part_words bytes from n room =
    omega (arith, length-words_of (take n (drop from bytes)), length-take n (drop from bytes), length-drop from bytes, room)

-- the part has room for the value, and is zero
pub part_room : (h : Trees → Type 0) (c : Bool) (bytes : List ℕ) (from to : ℕ) → from ≤ to → to ≤ length bytes → HasWords h c ((to - from) / 8)
    → HasRoomAt h c 0 (length (words_of (take (to - from) (drop from bytes))))
part_room h c bytes from to order within w =
    let size : (to - from) / 8 ≡ length (words_of (take (to - from) (drop from bytes))) = omega (arith, part_words bytes from (to - from) (omega (arith, order, within))) in
    has_room h c ((to - from) / 8) (length (words_of (take (to - from) (drop from bytes)))) w size

pub part_free : (h : Trees → Type 0) (c : Bool) (bytes : List ℕ) (from to : ℕ) → from ≤ to → to ≤ length bytes → (to - from) % 8 ≡ 0
    → take (to - from) (drop from bytes) ≡ replicate (to - from) 0 → HasWords h c ((to - from) / 8) → IsFreeFrom 0 (take (to - from) (drop from bytes))
part_free h c bytes from to order within whole zeros w = free_part bytes from (to - from) zeros (omega (arith, order, within)) whole w.few

-- what is written is the value's block
pub is_block : (h : Trees → Type 0) (c : Bool) (n : ℕ) (old new : List ℕ) (copied : Copied) (word : Word) → HasWords h c (n / 8) → length (words_of old) ≡ n / 8
    → ((trees : Trees) → h trees → IsCopied (output c trees) (0 - 0) 0 (words_of old) (words_of new) copied)
    → ((trees : Trees) → h trees → length (body (output c trees)) ≡ total_words (output c trees)) → number_of 256 (bytes_of word) ≡ copied.pointer → IsBlockOf h c word new
is_block h c n old new copied word w size written sizes word_is trees is =
    let own = written trees is in
    let all = written w.trees w.tree_is in
    let long : length (body (output c trees)) ≡ length (words_of old) = omega (arith, sizes trees is, own.next_is, all.next_is, w.words_are, size) in
    ap (λ (k : ℕ). k ∷ words_of new) word_is ∙ whole_written (output c trees) (words_of old) (words_of new) copied long own

-- a part of some bytes is written over
pub part_written : (bytes block : List ℕ) (from n : ℕ) → length block ≡ n → take from bytes ++ (block ++ drop n (drop from bytes)) ≡ written bytes from block
part_written bytes block from n long =
    let end : from + n ≡ from + length block = omega (arith, long) in
    ap (λ (l : List ℕ). take from bytes ++ (block ++ l)) (drop-drop n from bytes ∙ ap (λ (k : ℕ). drop k bytes) end)

pub part_long : (bytes : List ℕ) (from to : ℕ) → from ≤ to → to ≤ length bytes → length (take (to - from) (drop from bytes)) ≡ to - from
part_long bytes from to order within = omega (arith, length-take (to - from) (drop from bytes), length-drop from bytes, order, within)
