-- Putting bytes into a block, by whole words, puts their words among its words. A run of the bytes by whole words
-- has the words of that run.
use Rattle.std.proofs.lemmas.List.{take-append-drop, map-set, set_split, take_more, length-map, map-append}
use Rattle.std.proofs.Common.{◌≡◌, ℕ, zero, suc, ◌+◌, ◌*◌, ◌/◌, ◌%◌, ◌<◌, ◌≤◌, List, [], ◌∷◌, ◌++◌, length, map, take, drop, get_or, set, sym, ◌∙◌, ap, arith, length-append, length-take, length-drop}
use Rattle.std.specs.Simd.{first_chunks}
use Rattle.std.proofs.Math.Seq.{take-append_seam, drop-append_seam}
use Rattle.capnp_frame.specs.Prelude.{bytes_of}
use Rattle.capnp_frame.specs.declared.words.Word.{Word}
use Rattle.capnp_layout.specs.Prelude.{number_of, words_of, words_from, put, word_numbers}
use Rattle.capnp_layout.proofs.words.WordsOfBytesLemmas.{length-words_of}
use Rattle.capnp_layout.proofs.layouts.PutWordsCombinedLemmas.{put_parts, put_both}

abbrev pub chunked : ℕ → List ℕ → List ℕ
chunked k bytes = map (number_of 256) (first_chunks 8 k bytes)

chunks_split : (k j : ℕ) (xs ys : List ℕ) → length xs ≡ 8 * k → chunked (k + j) (xs ++ ys) ≡ chunked k xs ++ chunked j ys
chunks_split zero j [] ys long = ap (λ (n : ℕ). chunked n ys) (omega arith)
chunks_split zero j (x ∷ xs) ys long = absurd (omega arith)
chunks_split (suc k) j [] ys long = absurd (omega arith)
chunks_split (suc k) j (a ∷ []) ys long = absurd (omega arith)
chunks_split (suc k) j (a ∷ b ∷ []) ys long = absurd (omega arith)
chunks_split (suc k) j (a ∷ b ∷ c ∷ []) ys long = absurd (omega arith)
chunks_split (suc k) j (a ∷ b ∷ c ∷ d ∷ []) ys long = absurd (omega arith)
chunks_split (suc k) j (a ∷ b ∷ c ∷ d ∷ e ∷ []) ys long = absurd (omega arith)
chunks_split (suc k) j (a ∷ b ∷ c ∷ d ∷ e ∷ f ∷ []) ys long = absurd (omega arith)
chunks_split (suc k) j (a ∷ b ∷ c ∷ d ∷ e ∷ f ∷ g ∷ []) ys long = absurd (omega arith)
chunks_split (suc k) j (a ∷ b ∷ c ∷ d ∷ e ∷ f ∷ g ∷ h ∷ xs) ys long =
    let next : suc k + j ≡ suc (k + j) = omega arith in
    ap (λ (n : ℕ). chunked n ((a ∷ b ∷ c ∷ d ∷ e ∷ f ∷ g ∷ h ∷ xs) ++ ys)) next
    ∙ ap (λ (l : List ℕ). number_of 256 (a ∷ b ∷ c ∷ d ∷ e ∷ f ∷ g ∷ h ∷ []) ∷ l) (chunks_split k j xs ys (omega arith))

pub words_split : (k : ℕ) (xs ys : List ℕ) → length xs ≡ 8 * k → words_of (xs ++ ys) ≡ words_of xs ++ words_of ys
words_split k xs ys long =
    let whole : length (xs ++ ys) / 8 ≡ k + length ys / 8 = omega (arith, length-append xs ys) in
    let first : length xs / 8 ≡ k = omega arith in
    ap (λ (n : ℕ). chunked n (xs ++ ys)) whole ∙ chunks_split k (length ys / 8) xs ys long ∙ ap (λ (n : ℕ). chunked n xs ++ words_of ys) (sym first)

-- the bytes of a block in three parts
pub put_mid_words : (at : ℕ) (block bytes : List ℕ) → length bytes % 8 ≡ 0 → at + length bytes / 8 ≤ length block / 8
    → words_of (take (8 * at) block ++ (bytes ++ drop (length bytes) (drop (8 * at) block))) ≡ put at (words_of bytes) (words_of block)
put_mid_words at block bytes whole room =
    let k : ℕ = length bytes / 8 in
    let front : List ℕ = take (8 * at) block in
    let middle : List ℕ = take (length bytes) (drop (8 * at) block) in
    let rest : List ℕ = drop (length bytes) (drop (8 * at) block) in
    let front_long : length front ≡ 8 * at = omega (arith, length-take (8 * at) block) in
    let bytes_long : length bytes ≡ 8 * k = omega arith in
    let middle_long : length middle ≡ 8 * k = omega (arith, length-take (length bytes) (drop (8 * at) block), length-drop (8 * at) block) in
    let block_is : block ≡ front ++ (middle ++ rest) = sym (ap (λ (l : List ℕ). front ++ l) (take-append-drop (length bytes) (drop (8 * at) block)) ∙ take-append-drop (8 * at) block) in
    let old : words_of block ≡ words_of front ++ (words_of middle ++ words_of rest) =
    ap words_of block_is ∙ words_split at front (middle ++ rest) front_long ∙ ap (λ (l : List ℕ). words_of front ++ l) (words_split k middle rest middle_long) in
    let new : words_of (front ++ (bytes ++ rest)) ≡ words_of front ++ (words_of bytes ++ words_of rest) =
    words_split at front (bytes ++ rest) front_long ∙ ap (λ (l : List ℕ). words_of front ++ l) (words_split k bytes rest bytes_long) in
    new ∙ sym (ap (λ (l : List ℕ). put at (words_of bytes) l) old
    ∙ put_parts (words_of front) (words_of middle) (words_of rest) (words_of bytes) at (omega (arith, length-words_of front)) (omega (arith, length-words_of bytes, length-words_of middle)))

-- some words of a segment are the words of their bytes
pub words_part : (start n : ℕ) (bytes : List ℕ) → start + n ≤ length bytes / 8 → words_of (take (8 * n) (drop (8 * start) bytes)) ≡ words_from (words_of bytes) start n
words_part start n bytes room =
    let front : List ℕ = take (8 * start) bytes in
    let middle : List ℕ = take (8 * n) (drop (8 * start) bytes) in
    let rest : List ℕ = drop (8 * n) (drop (8 * start) bytes) in
    let front_long : length front ≡ 8 * start = omega (arith, length-take (8 * start) bytes) in
    let middle_long : length middle ≡ 8 * n = omega (arith, length-take (8 * n) (drop (8 * start) bytes), length-drop (8 * start) bytes) in
    let bytes_are : bytes ≡ front ++ (middle ++ rest) = sym (ap (λ (l : List ℕ). front ++ l) (take-append-drop (8 * n) (drop (8 * start) bytes)) ∙ take-append-drop (8 * start) bytes) in
    let whole : words_of bytes ≡ words_of front ++ (words_of middle ++ words_of rest) =
    ap words_of bytes_are ∙ words_split start front (middle ++ rest) front_long ∙ ap (λ (l : List ℕ). words_of front ++ l) (words_split n middle rest middle_long) in
    let start_is : length (words_of front) ≡ start = omega (arith, length-words_of front) in
    let n_is : length (words_of middle) ≡ n = omega (arith, length-words_of middle) in
    let dropped : drop start (words_of front ++ (words_of middle ++ words_of rest)) ≡ words_of middle ++ words_of rest =
    ap (λ (k : ℕ). drop k (words_of front ++ (words_of middle ++ words_of rest))) (sym start_is) ∙ drop-append_seam (words_of front) (words_of middle ++ words_of rest) in
    let taken : take n (words_of middle ++ words_of rest) ≡ words_of middle =
    ap (λ (k : ℕ). take k (words_of middle ++ words_of rest)) (sym n_is) ∙ take-append_seam (words_of middle) (words_of rest) in
    sym (ap (λ (l : List ℕ). take n (drop start l)) whole ∙ ap (λ (l : List ℕ). take n l) dropped ∙ taken)

pub length-word_numbers : (words : List Word) → length (word_numbers words) ≡ length words
length-word_numbers words = length-map words (λ (word : Word). number_of 256 (bytes_of word))

-- one item of a list, in the place of another
pub put_one : {X : Type 0} (f : X → ℕ) (at : ℕ) (x : X) (xs : List X) → at < length xs → map f (set xs at x) ≡ put at (f x ∷ []) (map f xs)
put_one f at x xs room =
    let fits : at < length (map f xs) = omega (arith, length-map xs f) in
    let next : suc at ≡ at + 1 = omega arith in
    map-set f xs at x ∙ set_split (map f xs) at (f x) fits
    ∙ ap (λ (n : ℕ). take at (map f xs) ++ f x ∷ drop n (map f xs)) next

-- one more chunk, after those before it
pub put_next : (at i : ℕ) (chunks : List (List ℕ)) (block : List ℕ) → i < length chunks → at + length chunks ≤ length block
    → put (at + i) (number_of 256 (get_or chunks i []) ∷ []) (put at (map (number_of 256) (take i chunks)) block) ≡ put at (map (number_of 256) (take (i + 1) chunks)) block
put_next at i chunks block more room =
    let so_far : List ℕ = map (number_of 256) (take i chunks) in
    let one : List ℕ = number_of 256 (get_or chunks i []) ∷ [] in
    let many : length so_far ≡ i = omega (arith, length-map (take i chunks) (number_of 256), length-take i chunks) in
    let here : at + length so_far ≡ at + i = omega arith in
    let all : so_far ++ one ≡ map (number_of 256) (take (i + 1) chunks) =
    sym (map-append (number_of 256) (take i chunks) (get_or chunks i [] ∷ [])) ∙ ap (map (number_of 256)) (sym (take_more chunks i [] more)) in
    ap (λ (n : ℕ). put n one (put at so_far block)) (sym here)
    ∙ put_both at so_far one block (omega arith)
    ∙ ap (λ (l : List ℕ). put at l block) all
