-- Eight words are compared with zero at once: the mask says whether all are zero, how many are at the front, or
-- that none has a zero byte.
use Rattle.std.proofs.Common.{◌≡◌, ℕ, zero, suc, ◌+◌, ◌%◌, ◌^◌, ◌≤◌, List, [], ◌∷◌, ◌++◌, length, take, drop, replicate, refl, sym}
use Rattle.std.proofs.Common.{ap, ◌∙◌, subst, arith, cond, not, eqb, map, get_or, drop-cons, ◌<◌, ◌/◌, inl, inr}
use Rattle.std.specs.Int.RustNames.{count_ones}
use Rattle.std.specs.List.{concat, flat_map, AllByRecursion, prefix_len}
use Rattle.std.proofs.Math.Dec.{eqb-suc-zero}
use Rattle.capnp_pack.specs.Prelude.{IfFirst, zero_word, IsWord, zero_bytes, IsZero, HasFewZeros, tag_of, length-words}
use Rattle.capnp_pack.proofs.words.UniqueRunLengthLemmas.{zero_or_not}
use Rattle.std.specs.Simd.Lanes.{zip2, mask_l, top}
use Rattle.std.proofs.lemmas.List.{take_all, take-take}
use Rattle.std.proofs.Math.Seq.{take-add}
use Rattle.std.proofs.lemmas.List.Concat.{concat_is}
use Rattle.capnp_pack.proofs.words.EachElementLemmas.{AllByRecursion-append}
use lib.Count.{count_trailing_zeros}
use Rattle.capnp_pack.proofs.words.ZeroMaskLemmas.{marks_lanes, zeros_lanes, trailing_tag}
use Rattle.capnp_pack.proofs.words.NonzeroByteTagLemmas.{tag_zero, tag_suc, zeros_cons}

flat_lanes : (words : List (List ℕ)) (flat : List ℕ) → AllByRecursion IsWord words → length words ≡ 8 → flat ≡ flat_map (λ x. x) words → (take 64 flat ≡ concat words) × (length (concat words) ≡ 64)
flat_lanes words flat all eight is =
    let same : flat ≡ concat words = is ∙ sym (concat_is words) in
    let long : length (concat words) ≡ 64 = omega (arith, length-words words all) in
    (ap (take 64) same ∙ take_all 64 (concat words) (omega (arith, long)), long)

-- the bits of the bytes that aren't zero
pub marks_eight : (words : List (List ℕ)) (flat : List ℕ) → AllByRecursion IsWord words → length words ≡ 8 → flat ≡ flat_map (λ x. x) words →
    mask_l (map (top 7) (zip2 (λ a b. cond (not (eqb a b)) 255 0) (take 64 flat) (replicate 64 0))) % 2 ^ 64 ≡ tag_of (concat words)
marks_eight words flat all eight is =
    let lanes = flat_lanes words flat all eight is in
    ap (λ l. mask_l (map (top 7) (zip2 (λ a b. cond (not (eqb a b)) 255 0) l (replicate 64 0))) % 2 ^ 64) lanes.0 ∙ marks_lanes 64 (concat words) lanes.1 (omega arith)

-- how many bytes are zero
pub zeros_eight : (words : List (List ℕ)) (flat : List ℕ) → AllByRecursion IsWord words → length words ≡ 8 → flat ≡ flat_map (λ x. x) words →
    count_ones (mask_l (map (top 7) (zip2 (λ a b. cond (eqb a b) 255 0) (take 64 flat) (replicate 64 0))) % 2 ^ 64) ≡ zero_bytes (concat words)
zeros_eight words flat all eight is =
    let lanes = flat_lanes words flat all eight is in
    ap (λ l. count_ones (mask_l (map (top 7) (zip2 (λ a b. cond (eqb a b) 255 0) l (replicate 64 0))) % 2 ^ 64)) lanes.0 ∙ zeros_lanes 64 (concat words) lanes.1 (omega arith)

tag_parts : (w rest : List ℕ) → tag_of (w ++ rest) ≡ 0 → (tag_of w ≡ 0) × (tag_of rest ≡ 0)
tag_parts [] rest e = (refl, e)
tag_parts (zero ∷ w) rest e = let p = tag_parts w rest (omega arith) in (omega (arith, p.0), p.1)
tag_parts (suc b ∷ w) rest e = absurd (omega (arith, tag_suc b (w ++ rest)))

-- with no such bit each word is zero
pub all_zero : (words : List (List ℕ)) → AllByRecursion IsWord words → tag_of (concat words) ≡ 0 → AllByRecursion IsZero words
all_zero [] all e = tt
all_zero (w ∷ words) all e =
    let p = tag_parts w (concat words) e in
    (tag_zero w p.0 ∙ ap (λ k. replicate k 0) all.0, all_zero words all.1 p.1)

zero_parts : (w rest : List ℕ) → zero_bytes (w ++ rest) ≡ 0 → (zero_bytes w ≡ 0) × (zero_bytes rest ≡ 0)
zero_parts [] rest e = (refl, e)
zero_parts (b ∷ w) rest e =
    let p = zero_parts w rest (omega (arith, zeros_cons b (w ++ rest))) in
    (omega (arith, zeros_cons b (w ++ rest), zeros_cons b w, p.0), p.1)

-- where no byte is zero, none is in a word
pub all_full : (words : List (List ℕ)) → zero_bytes (concat words) ≡ 0 → AllByRecursion HasFewZeros words
all_full [] e = tt
all_full (w ∷ words) e = let p = zero_parts w (concat words) e in (omega (arith, p.0), all_full words p.1)

-- a given number more of those after the first
pub all_more : {X : Type 0} (P : X → Type 0) (n m k : ℕ) (xs : List X) → m ≤ k → AllByRecursion P (take n xs) → AllByRecursion P (take m (take k (drop n xs))) → AllByRecursion P (take (n + m) xs)
all_more P n m k xs le front more =
    subst (AllByRecursion P) (sym (take-add n m xs)) (AllByRecursion-append P (take n xs) (take m (drop n xs)) front (subst (AllByRecursion P) (take-take m k (drop n xs) le) more))

-- one more than the first
pub all_one : (P : List ℕ → Type 0) (xs : List (List ℕ)) (n : ℕ) → n < length xs → AllByRecursion P (take n xs) → P (get_or xs n []) → AllByRecursion P (take (n + 1) xs)
all_one P xs n within front here =
    let next : take 1 (drop n xs) ≡ get_or xs n [] ∷ [] = ap (take 1) (drop-cons xs n [] within) in
    subst (AllByRecursion P) (sym (take-add n 1 xs)) (AllByRecursion-append P (take n xs) (take 1 (drop n xs)) front (subst (AllByRecursion P) (sym next) (here, tt)))

-- this many words at the front are zero, and the next one isn't
abbrev pub AreZerosInFront : List (List ℕ) → ℕ → Type 0
AreZerosInFront words k = (k ≤ length words) × AllByRecursion IsZero (take k words) × IfFirst (drop k words) (λ word. IsZero word → ⊥)

short_front : (w rest : List ℕ) → (w ≡ replicate (length w) 0 → ⊥) → prefix_len (λ x. not (not (eqb x 0))) (w ++ rest) < length w
short_front [] rest other = absurd (other refl)
short_front (zero ∷ w) rest other = let p = short_front w rest (λ e. other (ap (λ l. 0 ∷ l) e)) in omega (arith, p)
short_front (suc b ∷ w) rest other =
    let none : prefix_len (λ x. not (not (eqb x 0))) (suc b ∷ w ++ rest) ≡ 0 = ap (λ v. cond (not (not v)) (1 + prefix_len (λ x. not (not (eqb x 0))) (w ++ rest)) 0) (eqb-suc-zero b) in
    omega (arith, none)

eight_more : (rest : List ℕ) → prefix_len (λ x. not (not (eqb x 0))) (zero_word ++ rest) ≡ 8 + prefix_len (λ x. not (not (eqb x 0))) rest
eight_more rest = omega arith

-- the zero bytes at the front, in whole words
pub zero_words_front : (words : List (List ℕ)) → AllByRecursion IsWord words → AreZerosInFront words (prefix_len (λ x. not (not (eqb x 0))) (concat words) / 8)
zero_words_front [] all = (omega arith, tt, tt)
zero_words_front (w ∷ ws) all = elim (zero_or_not w) [
  | inl is ↦
      let more = zero_words_front ws all.1 in
      let front : prefix_len (λ x. not (not (eqb x 0))) (w ++ concat ws) ≡ 8 + prefix_len (λ x. not (not (eqb x 0))) (concat ws) =
      ap (λ v. prefix_len (λ x. not (not (eqb x 0))) (v ++ concat ws)) is ∙ eight_more (concat ws) in
      let next : prefix_len (λ x. not (not (eqb x 0))) (w ++ concat ws) / 8 ≡ suc (prefix_len (λ x. not (not (eqb x 0))) (concat ws) / 8) = omega (arith, front) in
      subst (AreZerosInFront (w ∷ ws)) (sym next) (omega (arith, more.0), (is, more.1), more.2)
  | inr other ↦
      let short = short_front w (concat ws) (λ e. other (e ∙ ap (λ k. replicate k 0) all.0)) in
      let none : prefix_len (λ x. not (not (eqb x 0))) (w ++ concat ws) / 8 ≡ 0 = omega (arith, short, all.0) in
      subst (AreZerosInFront (w ∷ ws)) (sym none) (omega arith, tt, other)
]

some_front : (bytes : List ℕ) → 0 < tag_of bytes → prefix_len (λ x. not (not (eqb x 0))) bytes < length bytes
some_front [] some = absurd (omega arith)
some_front (zero ∷ bytes) some = let p = some_front bytes (omega arith) in omega (arith, p)
some_front (suc b ∷ bytes) some =
    let none : prefix_len (λ x. not (not (eqb x 0))) (suc b ∷ bytes) ≡ 0 = ap (λ v. cond (not (not v)) (1 + prefix_len (λ x. not (not (eqb x 0))) bytes) 0) (eqb-suc-zero b) in
    omega (arith, none)

-- the number of zero words, by the lowest mark
pub zeros_reported : (words : List (List ℕ)) (marks : ℕ) → AllByRecursion IsWord words → length words ≡ 8 → marks ≡ tag_of (concat words) →
    (marks ≡ 0 → ⊥) → (count_trailing_zeros 64 marks / 8 < 8) × AreZerosInFront words (count_trailing_zeros 64 marks / 8)
zeros_reported words marks all eight e some =
    let long : length (concat words) ≡ 64 = omega (arith, length-words words all) in
    let more : 0 < tag_of (concat words) = omega (arith, e, positive marks some) in
    let reported : count_trailing_zeros 64 marks ≡ prefix_len (λ x. not (not (eqb x 0))) (concat words) = ap (count_trailing_zeros 64) e ∙ trailing_tag (concat words) long more in
    (omega (arith, reported, some_front (concat words) more, long), subst (λ n. AreZerosInFront words (n / 8)) (sym reported) (zero_words_front words all))
  where
    positive : (n : ℕ) → (n ≡ 0 → ⊥) → 0 < n
    positive zero other = absurd (other refl)
    positive (suc n) other = omega arith

-- the word after a part's front
pub first_of_part : (P : List ℕ → Type 0) (n k : ℕ) (xs : List (List ℕ)) → n < k → IfFirst (drop n (take k xs)) P → IfFirst (drop n xs) P
first_of_part P n zero xs low p = absurd (omega arith)
first_of_part P zero (suc k) [] low p = tt
first_of_part P zero (suc k) (x ∷ xs) low p = p
first_of_part P (suc n) (suc k) [] low p = tt
first_of_part P (suc n) (suc k) (x ∷ xs) low p = first_of_part P n k xs (omega arith) p
