-- The free part of a block is zero: from some word on, and still so after words are put before it.
use Rattle.std.proofs.Common.{◌≡◌, ℕ, zero, suc, ◌+◌, ◌-◌, ◌*◌, ◌/◌, ◌%◌, ◌<◌, ◌≤◌, ◌^◌, List, ◌∷◌, ◌++◌, length, map, take, drop, refl, sym, ◌∙◌, ap, arith, append_assoc, length-append, length-take, length-drop, drop-drop, []}
use Rattle.std.specs.Prelude.{All, replicate}
use Rattle.std.specs.Simd.{first_chunks}
use Rattle.std.proofs.Math.Seq.{drop-append_seam}
use Rattle.std.proofs.lemmas.List.{take-append-drop, take-replicate, drop-replicate, length-replicate, replicate-append-replicate}
use Rattle.std.proofs.lemmas.List.Elements.{All-take, All-drop, All-replicate}
use Rattle.capnp_layout.specs.Prelude.{number_of, words_of, Trees, total_words, body, AllHaveRoom, put}
use Rattle.capnp_wire.specs.Prelude.{IsCopied, IsFreeFrom}
use Rattle.capnp_wire.specs.declared.layout.copy.Copied.{Copied}
use Rattle.capnp_layout.proofs.words.WordsOfBytesLemmas.{length-words_of}
use Rattle.capnp_layout.proofs.words.PutBytesAsWordsLemmas.{words_part}
use Rattle.capnp_layout.proofs.layouts.PutWordsCombinedLemmas.{length-put}
use Rattle.capnp_layout.proofs.layouts.LayoutSizeLemmas.{length-body}

-- zeros, as bytes and as words
number_zero : (xs : List ℕ) → All (λ b. b ≡ 0) xs → number_of 256 xs ≡ 0
number_zero [] all = refl
number_zero (x ∷ xs) all =
    let first : x ≡ 0 = all 0 0 (omega arith) in
    let rest : number_of 256 xs ≡ 0 = number_zero xs (λ k d h. all (suc k) d (omega (arith, h))) in
    omega (arith, first, rest)

zero_chunks : (k : ℕ) (xs : List ℕ) → All (λ b. b ≡ 0) xs → map (number_of 256) (first_chunks 8 k xs) ≡ replicate k 0
zero_chunks zero xs all = refl
zero_chunks (suc k) xs all =
    let first : number_of 256 (take 8 xs) ≡ 0 = number_zero (take 8 xs) (All-take (λ b. b ≡ 0) 8 xs all) in
    let rest : map (number_of 256) (first_chunks 8 k (drop 8 xs)) ≡ replicate k 0 = zero_chunks k (drop 8 xs) (All-drop (λ b. b ≡ 0) 8 xs all) in
    rw (first, rest) refl

pub words_of_zeros : (n : ℕ) → words_of (replicate (8 * n) 0) ≡ replicate n 0
words_of_zeros n =
    let count : length {A = ℕ} (replicate (8 * n) 0) / 8 ≡ n = omega (arith, length-replicate {A = ℕ} (8 * n) 0) in
    zero_chunks (length {A = ℕ} (replicate (8 * n) 0) / 8) (replicate (8 * n) 0) (All-replicate (λ b. b ≡ 0) (8 * n) 0 refl) ∙ ap (λ (k : ℕ). replicate k 0) count

same_head : (a b : ℕ) (xs ys : List ℕ) → a ∷ xs ≡ b ∷ ys → a ≡ b
same_head a b xs ys e = cc

same_tail : (a b : ℕ) (xs ys : List ℕ) → a ∷ xs ≡ b ∷ ys → xs ≡ ys
same_tail a b xs ys e = cc

no_digits : (xs : List ℕ) → number_of 256 xs ≡ 0 → xs ≡ replicate (length xs) 0
no_digits [] e = refl
no_digits (x ∷ xs) e =
    let first : x ≡ 0 = omega (arith, e) in
    let rest : xs ≡ replicate (length xs) 0 = no_digits xs (omega (arith, e)) in
    ap (λ (n : ℕ). n ∷ xs) first ∙ ap (λ (l : List ℕ). 0 ∷ l) rest

zero_bytes_of : (k : ℕ) (xs : List ℕ) → length xs ≡ 8 * k → map (number_of 256) (first_chunks 8 k xs) ≡ replicate k 0 → xs ≡ replicate (length xs) 0
zero_bytes_of zero [] long is = refl
zero_bytes_of zero (x ∷ xs) long is = absurd (omega (arith, long))
zero_bytes_of (suc k) xs long is =
    let rest_long : length (drop 8 xs) ≡ 8 * k = omega (arith, length-drop 8 xs, long) in
    let first_long : length (take 8 xs) ≡ 8 = omega (arith, length-take 8 xs, long) in
    let first : take 8 xs ≡ replicate 8 0 = no_digits (take 8 xs) (same_head _ _ _ _ is) ∙ ap (λ (n : ℕ). replicate n 0) first_long in
    let rest : drop 8 xs ≡ replicate (8 * k) 0 = zero_bytes_of k (drop 8 xs) rest_long (same_tail _ _ _ _ is) ∙ ap (λ (n : ℕ). replicate n 0) rest_long in
    let all : 8 + 8 * k ≡ length xs = omega (arith, long) in
    sym (take-append-drop 8 xs) ∙ ap (λ (l : List ℕ). l ++ drop 8 xs) first ∙ ap (λ (l : List ℕ). replicate 8 0 ++ l) rest
    ∙ replicate-append-replicate 8 (8 * k) 0 ∙ ap (λ (n : ℕ). replicate n 0) all

-- zero from a later word on, and after words that are put before it
zero_later : (next k : ℕ) (ws : List ℕ) → next ≤ k → drop next ws ≡ replicate (length ws - next) 0 → drop k ws ≡ replicate (length ws - k) 0
zero_later next k ws le is =
    let split : k ≡ next + (k - next) = omega (arith, le) in
    let left : length ws - next - (k - next) ≡ length ws - k = omega (arith, le) in
    ap (λ (n : ℕ). drop n ws) split ∙ sym (drop-drop (k - next) next ws) ∙ ap (λ (l : List ℕ). drop (k - next) l) is
    ∙ drop-replicate (k - next) (length ws - next) 0 ∙ ap (λ (n : ℕ). replicate n 0) left

drop_put : (at k : ℕ) (xs ws : List ℕ) → at + length xs ≤ k → at + length xs ≤ length ws → drop k (put at xs ws) ≡ drop k ws
drop_put at k xs ws before room =
    let end : ℕ = at + length xs in
    let front : List ℕ = take at ws ++ xs in
    let long : at + length xs ≡ length (take at ws ++ xs) = omega (arith, length-append (take at ws) xs, length-take at ws, room) in
    let split : k ≡ at + length xs + (k - (at + length xs)) = omega (arith, before) in
    let seam : drop end (put at xs ws) ≡ drop end ws =
    ap (λ (l : List ℕ). drop end l) (sym (append_assoc (take at ws) xs (drop end ws)))
    ∙ ap (λ (n : ℕ). drop n (front ++ drop end ws)) long ∙ drop-append_seam front (drop end ws) in
    ap (λ (n : ℕ). drop n (put at xs ws)) split ∙ sym (drop-drop (k - end) end (put at xs ws)) ∙ ap (λ (l : List ℕ). drop (k - end) l) seam
    ∙ drop-drop (k - end) end ws ∙ ap (λ (n : ℕ). drop n ws) (sym split)

pub free_after : (at next k : ℕ) (xs old new : List ℕ) → words_of new ≡ put at xs (words_of old) → length new ≡ length old → at + length xs ≤ k → next ≤ k
    → at + length xs ≤ length (words_of old) → IsFreeFrom next old → IsFreeFrom k new
free_after at next k xs old new is long before le room f =
    let same : length (words_of new) ≡ length (words_of old) = ap length is ∙ length-put at xs (words_of old) room in
    record {
      whole = ap (λ (n : ℕ). n % 8) long ∙ f.whole;
      few = omega (arith, same, f.few);
      zero = ap (λ (l : List ℕ). drop k l) is ∙ drop_put at k xs (words_of old) before room ∙ zero_later next k (words_of old) le f.zero
          ∙ ap (λ (n : ℕ). replicate (n - k) 0) (sym same);
    }

pub free_later : (next k : ℕ) (block : List ℕ) → next ≤ k → IsFreeFrom next block → IsFreeFrom k block
free_later next k block le f = record { whole = f.whole; few = f.few; zero = zero_later next k (words_of block) le f.zero }

pub free_copied : (trees : Trees) (gap next : ℕ) (old new : List ℕ) (copied : Copied) → IsCopied trees gap next (words_of old) (words_of new) copied → AllHaveRoom trees → length new ≡ length old
    → next + total_words trees ≤ length (words_of old) → IsFreeFrom next old → IsFreeFrom copied.next new
free_copied trees gap next old new copied is rooms long fits f =
    let size = length-body trees rooms in
    free_after next next copied.next (body trees) old new is.words_are long (omega (arith, size, is.next_is)) (omega (arith, is.next_is)) (omega (arith, size, fits)) f

-- a block of zeros
pub free_block : (block : List ℕ) → length block % 8 ≡ 0 → length (words_of block) < 2 ^ 29 → block ≡ replicate (length block) 0 → IsFreeFrom 0 block
free_block block whole few zeros =
    let n : ℕ = length (words_of block) in
    let long : length block ≡ 8 * length (words_of block) = omega (arith, whole, length-words_of block) in
    let all : length (words_of block) ≡ length (words_of block) - 0 = omega arith in
    record {
      whole = whole;
      few = few;
      zero = ap words_of zeros ∙ ap (λ (k : ℕ). words_of (replicate k 0)) long ∙ words_of_zeros n ∙ ap (λ (k : ℕ). replicate k 0) all;
    }

-- the bytes of some words that are zero
pub free_bytes : (next n : ℕ) (block : List ℕ) → IsFreeFrom next block → next + n ≤ length (words_of block) → take (8 * n) (drop (8 * next) block) ≡ replicate (8 * n) 0
free_bytes next n block f room =
    let bytes : List ℕ = take (8 * n) (drop (8 * next) block) in
    let inside : next + n ≤ length block / 8 = omega (arith, room, length-words_of block) in
    let long : length (take (8 * n) (drop (8 * next) block)) ≡ 8 * n = omega (arith, length-take (8 * n) (drop (8 * next) block), length-drop (8 * next) block, inside) in
    let count : length (take (8 * n) (drop (8 * next) block)) / 8 ≡ n = omega (arith, long) in
    let zeros : words_of bytes ≡ replicate n 0 =
    words_part next n block inside ∙ ap (λ (l : List ℕ). take n l) f.zero ∙ take-replicate n (length (words_of block) - next) 0 (omega (arith, room)) in
    zero_bytes_of n bytes long (ap (λ (k : ℕ). map (number_of 256) (first_chunks 8 k bytes)) (sym count) ∙ zeros) ∙ ap (λ (k : ℕ). replicate k 0) long

-- a part of a block of zeros
pub free_part : (bytes : List ℕ) (k n : ℕ) → take n (drop k bytes) ≡ replicate n 0 → k + n ≤ length bytes → n % 8 ≡ 0 → n / 8 < 2 ^ 29 → IsFreeFrom 0 (take n (drop k bytes))
free_part bytes k n zeros room whole few =
    let part : List ℕ = take n (drop k bytes) in
    let long : length (take n (drop k bytes)) ≡ n = omega (arith, length-take n (drop k bytes), length-drop k bytes, room) in
    free_block part (omega (arith, long, whole)) (omega (arith, long, few, length-words_of (take n (drop k bytes)))) (zeros ∙ ap (λ (m : ℕ). replicate m 0) (sym long))

pub zero_part : (bytes : List ℕ) (k n : ℕ) → bytes ≡ replicate (length bytes) 0 → k + n ≤ length bytes → take n (drop k bytes) ≡ replicate n 0
zero_part bytes k n zeros room =
    ap (λ (l : List ℕ). take n (drop k l)) zeros ∙ ap (λ (l : List ℕ). take n l) (drop-replicate k (length bytes) 0) ∙ take-replicate n (length bytes - k) 0 (omega (arith, room))
