-- How many of some words are left without the zeros at their end.
use Rattle.std.proofs.Common.{◌≡◌, ℕ, zero, suc, ◌+◌, ◌-◌, ◌*◌, ◌<◌, ◌≤◌, max, List, [], ◌∷◌, ◌++◌, length, take, drop, Some, slice_get, refl, sym, ◌∙◌, ap, arith, length-append}
use Rattle.std.proofs.Common.{length-take, length-drop}
use Rattle.capnp_layout.specs.Prelude.{words_from, keep_word, cut_zeros, most_used}
use Rattle.capnp_layout.proofs.words.TrailingZeroRemovalIdempotenceLemmas.{length-cut_zeros}

pub take_more : (k : ℕ) (xs : List ℕ) (x : ℕ) → slice_get xs k ≡ Some x → take (suc k) xs ≡ take k xs ++ x ∷ []
take_more k [] x there = absurd (cc)
take_more zero (y ∷ xs) x there = let same : y ≡ x = cc in ap (λ (n : ℕ). n ∷ []) same
take_more (suc k) (y ∷ xs) x there = ap (λ (l : List ℕ). y ∷ l) (take_more k xs x there)

pub get_after : (start k : ℕ) (words : List ℕ) (x : ℕ) → slice_get words (start + k) ≡ Some x → slice_get (drop start words) k ≡ Some x
get_after zero k words x there = ap (λ (n : ℕ). slice_get words n) (omega arith) ∙ there
get_after (suc start) k [] x there = absurd (cc)
get_after (suc start) k (w ∷ words) x there =
    let next : suc start + k ≡ suc (start + k) = omega arith in
    get_after start k words x (ap (λ (n : ℕ). slice_get (w ∷ words) n) (sym next) ∙ there)

cut_last : (xs : List ℕ) → cut_zeros (xs ++ 0 ∷ []) ≡ cut_zeros xs
cut_last [] = refl
cut_last (x ∷ xs) = ap (λ (l : List ℕ). keep_word l x) (cut_last xs)

keep_full : (xs : List ℕ) (w x : ℕ) → keep_word (xs ++ suc w ∷ []) x ≡ x ∷ (xs ++ suc w ∷ [])
keep_full [] w x = refl
keep_full (y ∷ xs) w x = refl

cut_full : (xs : List ℕ) (w : ℕ) → cut_zeros (xs ++ suc w ∷ []) ≡ xs ++ suc w ∷ []
cut_full [] w = refl
cut_full (x ∷ xs) w = ap (λ (l : List ℕ). keep_word l x) (cut_full xs w) ∙ keep_full xs w x

pub one_unused : (words : List ℕ) (start k : ℕ) → slice_get words (start + k) ≡ Some 0 → length (cut_zeros (words_from words start (suc k))) ≡ length (cut_zeros (words_from words start k))
one_unused words start k there = ap (λ (l : List ℕ). length (cut_zeros l)) (take_more k (drop start words) 0 (get_after start k words 0 there)) ∙ ap length (cut_last (words_from words start k))

all_used : (words : List ℕ) (start k w : ℕ) → start + suc k ≤ length words → slice_get words (start + k) ≡ Some (suc w) → length (cut_zeros (words_from words start (suc k))) ≡ suc k
all_used words start k w room there =
    ap (λ (l : List ℕ). length (cut_zeros l)) (take_more k (drop start words) (suc w) (get_after start k words (suc w) there)) ∙ ap length (cut_full (words_from words start k) w)
    ∙ omega (arith, length-append (take k (drop start words)) (suc w ∷ []), length-take k (drop start words), length-drop start words)

-- the word before the end
pub last_used : (words : List ℕ) (start left word : ℕ) → 0 < left → start + left ≤ length words → slice_get words (start + left - 1) ≡ Some word → 0 < word
    → left ≡ length (cut_zeros (words_from words start left))
last_used words start zero word some room there positive = absurd (omega arith)
last_used words start (suc k) zero some room there positive = absurd (omega arith)
last_used words start (suc k) (suc w) some room there positive =
    let at : start + suc k - 1 ≡ start + k = omega arith in
    sym (all_used words start k w room (ap (λ (n : ℕ). slice_get words n) (sym at) ∙ there))

pub last_unused : (words : List ℕ) (start left : ℕ) → 0 < left → slice_get words (start + left - 1) ≡ Some 0
    → length (cut_zeros (words_from words start (left - 1))) ≡ length (cut_zeros (words_from words start left))
last_unused words start zero some there = absurd (omega arith)
last_unused words start (suc k) some there =
    let at : start + suc k - 1 ≡ start + k = omega arith in
    let less : suc k - 1 ≡ k = omega arith in
    ap (λ (n : ℕ). length (cut_zeros (words_from words start n))) less ∙ sym (one_unused words start k (ap (λ (n : ℕ). slice_get words n) (sym at) ∙ there))

-- consecutive parts
pub most_next : (words : List ℕ) (start k step n so_far : ℕ) → 0 < n
    → max so_far (most_used words start k step n) ≡ max (max so_far (length (cut_zeros (words_from words start k)))) (most_used words (start + step) k step (n - 1))
most_next words start k step zero so_far some = absurd (omega arith)
most_next words start k step (suc n) so_far some =
    let less : suc n - 1 ≡ n = omega arith in
    rw less (omega arith)

pub most_within : (words : List ℕ) (start k : ℕ) → length (cut_zeros (words_from words start k)) ≤ k
most_within words start k = omega (arith, length-cut_zeros (words_from words start k), length-take k (drop start words))

pub stretch_next : (start count step n there : ℕ) → 0 < n → start + n * step ≤ there + (step - count) → start + step + (n - 1) * step ≤ there + (step - count)
stretch_next start count step zero there some room = absurd (omega arith)
stretch_next start count step (suc n) there some room =
    let split : suc n * step ≡ step + n * step = omega arith in
    let less : suc n - 1 ≡ n = omega arith in
    rw less (omega arith)

-- parts of no words
pub most_none : (words : List ℕ) (start step n : ℕ) → most_used words start 0 step n ≡ 0
most_none words start step zero = refl
most_none words start step (suc n) = omega (arith, most_within words start 0, most_none words (start + step) step n)
