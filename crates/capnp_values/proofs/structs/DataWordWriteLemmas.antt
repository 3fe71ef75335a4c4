-- The data words of a struct are put into a block, one after the other or all at once; and how many of them are
-- used, up to the last that is not zero.
use Rattle.std.proofs.Common.{◌≡◌, ℕ, zero, suc, ◌+◌, ◌-◌, ◌*◌, ◌<◌, ◌≤◌, ◌^◌, List, [], ◌∷◌, ◌++◌, length, take, drop, refl, sym, ◌∙◌, ap, arith}
use Rattle.std.proofs.Common.{Some, slice_get, slice_index_or, length-take, length-drop, length-append, w64}
use Rattle.std.specs.Int.{to_le_bytes}
use Rattle.std.proofs.lemmas.List.{take_all}
use Rattle.capnp_layout.specs.Prelude.{put, words_of, words_from, cut_zeros}
use Rattle.capnp_wire.specs.Prelude.{IsFreeFrom}
use Rattle.capnp_layout.proofs.layouts.PutWordsCombinedLemmas.{put_both, length-put}
use Rattle.capnp_wire.proofs.layouts.ZeroFreePartLemmas.{free_after}
use Rattle.capnp_layout.proofs.words.LengthWithoutTrailingZerosLemmas.{take_more, last_used, last_unused}
use Rattle.capnp_wire.proofs.views.WalkCountIsMeasureLemmas.{put_whole}
use Rattle.capnp_layout.proofs.objects.NumberAsOneWordStructLemmas.{one_word}
use Rattle.capnp_layout.proofs.words.WordsOfBytesLemmas.{length-words_of}
use Rattle.capnp_layout.proofs.words.PutBytesAsWordsLemmas.{put_mid_words}

-- words that are put one after the other
same_there : (xs : List ℕ) (k e : ℕ) → k < length xs → slice_get xs k ≡ Some (slice_index_or xs k e)
same_there [] k e within = absurd (omega arith)
same_there (x ∷ xs) zero e within = refl
same_there (x ∷ xs) (suc k) e within = same_there xs k e (omega arith)

pub next_put : (i x : ℕ) (block new old words : List ℕ) → slice_get words i ≡ Some x → i < length words → length old ≡ length words → new ≡ put i (x ∷ []) block → block ≡ put 0 (take i words) old
    → new ≡ put 0 (take (i + 1) words) old
next_put i x block new old words there within old_long is so_far =
    let front : length (take i words) ≡ i = omega (arith, length-take i words) in
    let next : suc i ≡ i + 1 = omega arith in
    is
    ∙ ap (λ (l : List ℕ). put i (x ∷ []) l) so_far
    ∙ ap (λ (n : ℕ). put n (x ∷ []) (put 0 (take i words) old)) (omega arith)
    ∙ put_both 0 (take i words) (x ∷ []) old (omega arith)
    ∙ ap (λ (l : List ℕ). put 0 l old) (sym (take_more i words x there) ∙ ap (λ (n : ℕ). take n words) next)

pub word_put : (i k : ℕ) (block w old words : List ℕ) (x : ℕ) → k ≡ 8 → w ≡ to_le_bytes w64 x → length w ≡ 8 → x < 2 ^ 64 → slice_get words i ≡ Some x → i < length words
    → length block ≡ 8 * length words → length old ≡ length words → words_of block ≡ put 0 (take i words) old
    → words_of (take (8 * i) block ++ (w ++ drop k (drop (8 * i) block))) ≡ put 0 (take (i + 1) words) old
word_put i k block w old words x k_is w_is eight small there within long old_long so_far =
    let one : words_of w ≡ x ∷ [] = one_word w x small w_is in
    let is : words_of (take (8 * i) block ++ (w ++ drop k (drop (8 * i) block))) ≡ put i (x ∷ []) (words_of block) =
    ap (λ (n : ℕ). words_of (take (8 * i) block ++ (w ++ drop n (drop (8 * i) block)))) (k_is ∙ sym eight)
    ∙ put_mid_words i block w (omega arith) (omega arith)
    ∙ ap (λ (l : List ℕ). put i l (words_of block)) one in
    next_put i x (words_of block) _ old words there within old_long is so_far

pub there_is : (xs : List ℕ) (k e x : ℕ) → k < length xs → x ≡ slice_index_or xs k e → slice_get xs k ≡ Some x
there_is xs k e x within is = same_there xs k e within ∙ ap (λ (n : ℕ). Some n) (sym is)

pub all_put : (words old block : List ℕ) (i : ℕ) → length old ≡ length words → length words ≤ i → words_of block ≡ put 0 (take i words) old → words_of block ≡ words
all_put words old block i long past is = is ∙ ap (λ (l : List ℕ). put 0 l old) (take_all i words past) ∙ put_whole words old (sym long)

-- data words that are put into a block
pub data_put : (at k : ℕ) (words block part : List ℕ) → words_of part ≡ words → length part ≡ 8 * length words → k ≡ 8 * length words → at + length words ≤ length (words_of block)
    → words_of (take (8 * at) block ++ (part ++ drop k (drop (8 * at) block))) ≡ put at words (words_of block)
data_put at k words block part is long k_is room =
    ap (λ (n : ℕ). words_of (take (8 * at) block ++ (part ++ drop n (drop (8 * at) block)))) (k_is ∙ sym long)
    ∙ put_mid_words at block part (omega (arith, long)) (omega (arith, long, room, length-words_of block))
    ∙ ap (λ (l : List ℕ). put at l (words_of block)) is

pub record DataPut (at next : ℕ) (words block new : List ℕ) : Type 0 where
  pub words_are : words_of new ≡ put at words (words_of block)
  pub same : length (words_of new) ≡ length (words_of block)
  pub long : length new ≡ length block
  pub free_from : IsFreeFrom next new

pub data_is_put : (at slot next : ℕ) (words block part : List ℕ) → words_of part ≡ words → length part ≡ length (take (8 * slot - 8 * at) (drop (8 * at) block)) → slot ≡ at + length words
    → slot ≤ next → next ≤ length (words_of block) → IsFreeFrom next block
    → DataPut at next words block (take (8 * at) block ++ (part ++ drop (8 * slot - 8 * at) (drop (8 * at) block)))
data_is_put at slot next words block part is part_long slot_is le room f =
    let new : List ℕ = take (8 * at) block ++ (part ++ drop (8 * slot - 8 * at) (drop (8 * at) block)) in
    let inside : 8 * next ≤ length block = omega (arith, room, length-words_of block) in
    let size : 8 * slot - 8 * at ≡ 8 * length words = omega (arith, slot_is) in
    let part_size : length part ≡ 8 * length words =
    omega (arith, part_long, size, le, inside, slot_is, length-take (8 * slot - 8 * at) (drop (8 * at) block), length-drop (8 * at) block) in
    let words_are = data_put at (8 * slot - 8 * at) words block part is part_size size (omega (arith, slot_is, le, room)) in
    let long : length (take (8 * at) block ++ (part ++ drop (8 * slot - 8 * at) (drop (8 * at) block))) ≡ length block =
    omega (
      arith,
      length-append (take (8 * at) block) (part ++ drop (8 * slot - 8 * at) (drop (8 * at) block)),
      length-append part (drop (8 * slot - 8 * at) (drop (8 * at) block)),
      length-take (8 * at) block,
      length-drop (8 * slot - 8 * at) (drop (8 * at) block),
      length-drop (8 * at) block,
      part_size,
      size,
      slot_is,
      le,
      inside,
    ) in
    record {
      words_are = words_are;
      same = ap length words_are ∙ length-put at words (words_of block) (omega (arith, slot_is, le, room));
      long = long;
      free_from = free_after at next next words block new words_are long (omega (arith, slot_is, le)) (omega arith) (omega (arith, slot_is, le, room)) f;
    }

pub here_used : (words : List ℕ) (left w : ℕ) → 0 < left → left ≤ length words → w ≡ slice_index_or words (left - 1) 0 → 0 < w → left ≡ length (cut_zeros (words_from words 0 left))
here_used words left w some room is positive =
    let at : left - 1 ≡ 0 + left - 1 = omega arith in
    last_used words 0 left w some (omega arith) (ap (λ (n : ℕ). slice_get words n) (sym at) ∙ there_is words (left - 1) 0 w (omega arith) is) positive

pub here_unused : (words : List ℕ) (left : ℕ) → 0 < left → left ≤ length words → 0 ≡ slice_index_or words (left - 1) 0
    → length (cut_zeros (words_from words 0 (left - 1))) ≡ length (cut_zeros (words_from words 0 left))
here_unused words left some room is =
    let at : left - 1 ≡ 0 + left - 1 = omega arith in
    last_unused words 0 left some (ap (λ (n : ℕ). slice_get words n) (sym at) ∙ there_is words (left - 1) 0 0 (omega arith) is)
