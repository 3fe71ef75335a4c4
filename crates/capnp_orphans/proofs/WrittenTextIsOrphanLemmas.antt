-- Texts that are written over a block of exactly their words are orphans.
use Rattle.std.proofs.Common.{◌≡◌, ℕ, ◌+◌, ◌-◌, ◌*◌, ◌^◌, ◌<◌, ◌≤◌, false, List, [], ◌∷◌, ◌++◌, length, take, drop, slice_index_or, sym, ◌∙◌, ap, subst, refl, arith, length-take}
use Rattle.std.specs.Prelude.{replicate}
use Rattle.std.proofs.Math.Seq.{drop-append-add}
use Rattle.std.proofs.lemmas.List.{append-nil, drop-replicate}
use Rattle.capnp_layout.specs.Prelude.{words_of, words_for, numbers, none, tree, total_words, own, pointer, list_pointer, AllHaveRoom}
use Rattle.capnp_layout.proofs.words.WordsOfPaddedByteListLemmas.{words_of_padded, text_own, long_end}
use Rattle.capnp_wire.specs.Prelude.{HasWords, IsTextTree}
use Rattle.capnp_orphans.specs.Orphans.{IsOrphan}
use Rattle.capnp_orphans.specs.Holds.{HoldsValue}
use Rattle.capnp_orphans.proofs.ObjectIsOrphanLemmas.{value_is_orphan}
use Rattle.capnp_orphans.proofs.WrittenBlockIsOrphanLemmas.{last_part}

-- the last part of a block is made zero, and bytes are put in front
pub end_zero : (bytes block filled : List ℕ) (m k : ℕ) → m ≤ length block → m ≤ length bytes → filled ≡ replicate k 0 → k ≡ length block - m
    → drop (length bytes) (take m block ++ (filled ++ drop (length block - m) (drop m block))) ≡ replicate (length block - length bytes) 0
end_zero bytes block filled m k within before zeros long =
    let front : length (take m block) ≡ m = omega (arith, length-take m block, within) in
    let at : length bytes ≡ length (take m block) + (length bytes - m) = omega (arith, front, before) in
    ap (λ (l : List ℕ). drop (length bytes) l) (last_part m block filled ∙ ap (λ (l : List ℕ). take m block ++ l) zeros)
    ∙ ap (λ (n : ℕ). drop n (take m block ++ replicate k 0)) at
    ∙ drop-append-add (take m block) (replicate k 0) (length bytes - m)
    ∙ drop-replicate (length bytes - m) k 0
    ∙ ap (λ (n : ℕ). replicate n 0) (omega (arith, long, before))

-- it is an orphan
pub text_written : (body text block : List ℕ) (start words k w : ℕ) → start ≡ 1 + length body → HasWords (IsTextTree text) false words → start + words < 2 ^ 29
    → ((j : ℕ) → slice_index_or text j 0 < 256) → length text + k ≡ 8 * words_for (length text + 1) 8 → block ≡ text ++ replicate k 0
    → w ≡ list_pointer start 2 (length text + 1) → HoldsValue (IsTextTree text) (body ++ words_of block) w
text_written body text block start words k w is takes room fits size block_is word_is =
    let values : List ℕ = text ++ 0 ∷ [] in
    let rooms : AllHaveRoom (tree (numbers 2 (text ++ 0 ∷ [])) none none) = subst AllHaveRoom takes.tree_is.1 takes.rooms in
    let total : words ≡ total_words (tree (numbers 2 (text ++ 0 ∷ [])) none none) = takes.words_are ∙ ap total_words takes.tree_is.1 in
    let word : w ≡ pointer (numbers 2 (text ++ 0 ∷ [])) 0 start = word_is ∙ ap (λ (n : ℕ). list_pointer start 2 n) (sym (long_end text)) in
    let words_are = ap words_of block_is ∙ words_of_padded text k (words_for (length text + 1) 8) fits size ∙ text_own text
    ∙ sym (append-nil (own (numbers 2 values) [] ++ []) ∙ append-nil (own (numbers 2 values) [])) in (
      numbers 2 (text ++ 0 ∷ []),
      none,
      (takes.tree_is.0, refl),
      subst (λ (x : ℕ). IsOrphan (body ++ words_of block) x (numbers 2 (text ++ 0 ∷ [])) none) (sym word)
          (subst (λ (l : List ℕ). IsOrphan (body ++ l) (pointer (numbers 2 (text ++ 0 ∷ [])) 0 start) (numbers 2 (text ++ 0 ∷ [])) none) (sym words_are)
          (value_is_orphan body (numbers 2 (text ++ 0 ∷ [])) none start is rooms (omega (arith, room, total)))),
    )
