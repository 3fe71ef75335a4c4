-- The words of a list of numbers are put one after the other: the full ones, and then the last one, which may have
-- fewer numbers.
use Rattle.std.proofs.Common.{◌≡◌, ℕ, zero, suc, ◌+◌, ◌-◌, ◌*◌, ◌/◌, ◌%◌, ◌<◌, ◌≤◌, ◌^◌, List, [], ◌∷◌, length, map, take, drop, Some, slice_get, arith}
use Rattle.std.specs.Prelude.{All}
use Rattle.std.proofs.Math.Nat.{mul-le-mul_left}
use Rattle.capnp_layout.specs.Prelude.{digits, number_of, words_of, width, words_for, put}
use Rattle.capnp_layout.proofs.words.DigitsToNumberAndBackLemmas.{length-digits}
use Rattle.capnp_values.proofs.numbers.NumberListAsWordsLemmas.{number_digit_at}
use Rattle.capnp_values.proofs.structs.DataWordWriteLemmas.{next_put, all_put}

-- a number of words are full, and at most one more is not
pub record IsParted (w each n : ℕ) : Type 0 where
  pub full : n / each ≤ words_for n w
  pub words : words_for n w ≤ n / each + 1
  pub few : n ≤ n / each * each + each
  pub within : (i : ℕ) → i < n / each → i * each + each ≤ n

parted_at : (w each n : ℕ) → 0 < each → n / each ≤ words_for n w → words_for n w ≤ n / each + 1 → IsParted w each n
parted_at w each n some full words =
    let whole : each * (n / each) + n % each ≡ n = omega (arith, some) in
    let over : n % each < each = omega (arith, some) in
    record {
      full = full;
      words = words;
      few = omega (arith, whole, over);
      within = λ i inside.
          let more : each * (i + 1) ≤ each * (n / each) = mul-le-mul_left each (omega (arith, inside)) in
          omega (arith, more, whole);
    }

pub parted : (code each n : ℕ) → 0 < code → code < 6 → each ≡ 64 / width code → IsParted (width code) each n
parted zero each n some known is = absurd (omega (arith, some))
parted (suc zero) each n some known is = let e : each ≡ 64 = is in rw e (parted_at 1 64 n (omega arith) (omega arith) (omega arith))
parted (suc (suc zero)) each n some known is = let e : each ≡ 8 = is in rw e (parted_at 8 8 n (omega arith) (omega arith) (omega arith))
parted (suc (suc (suc zero))) each n some known is = let e : each ≡ 4 = is in rw e (parted_at 16 4 n (omega arith) (omega arith) (omega arith))
parted (suc (suc (suc (suc zero)))) each n some known is = let e : each ≡ 2 = is in rw e (parted_at 32 2 n (omega arith) (omega arith) (omega arith))
parted (suc (suc (suc (suc (suc zero))))) each n some known is = let e : each ≡ 1 = is in rw e (parted_at 64 1 n (omega arith) (omega arith) (omega arith))
parted (suc (suc (suc (suc (suc (suc code)))))) each n some known is = absurd (omega (arith, known))

-- the words of a list, its full ones put one after the other, and then the last one
pub full_put : {V : Type 0} (f : V → ℕ) (code each m i word : ℕ) (items : List V) (block new old : List ℕ) → 0 < code → code < 6 → each ≡ 64 / width code → m ≡ words_for (length items) (width code)
    → All (λ k. k < 2 ^ width code) (map f items) → i < length items / each → word ≡ number_of (2 ^ width code) (map f (take (i * each + each - i * each) (drop (i * each) items)))
    → length old ≡ m → new ≡ put i (word ∷ []) block → block ≡ put 0 (take i (digits (2 ^ 64) m (number_of (2 ^ width code) (map f items)))) old
    → new ≡ put 0 (take (i + 1) (digits (2 ^ 64) m (number_of (2 ^ width code) (map f items)))) old
full_put f code each m i word items block new old some known each_is m_is fit inside word_is old_is is so_far =
    let p = parted code each (length items) some known each_is in
    let long = length-digits (2 ^ 64) m (number_of (2 ^ width code) (map f items)) in
    let there : slice_get (digits (2 ^ 64) m (number_of (2 ^ width code) (map f items))) i ≡ Some word =
    number_digit_at f code each m i (i * each + each) word items some known each_is (omega (arith, inside, p.full, m_is)) m_is (omega (arith, p.within i inside)) fit word_is in
    next_put i word block new old (digits (2 ^ 64) m (number_of (2 ^ width code) (map f items))) there (omega (arith, inside, p.full, m_is, long)) (omega (arith, old_is, long)) is so_far

pub last_put : {V : Type 0} (f : V → ℕ) (code each m word : ℕ) (items : List V) (block new old : List ℕ) → 0 < code → code < 6 → each ≡ 64 / width code → m ≡ words_for (length items) (width code)
    → All (λ k. k < 2 ^ width code) (map f items) → length items / each < m → word ≡ number_of (2 ^ width code) (map f (take (length items - length items / each * each) (drop (length items / each * each) items)))
    → length old ≡ m → new ≡ put (length items / each) (word ∷ []) block → block ≡ put 0 (take (length items / each) (digits (2 ^ 64) m (number_of (2 ^ width code) (map f items)))) old
    → new ≡ put 0 (take (length items / each + 1) (digits (2 ^ 64) m (number_of (2 ^ width code) (map f items)))) old
last_put f code each m word items block new old some known each_is m_is fit inside word_is old_is is so_far =
    let p = parted code each (length items) some known each_is in
    let long = length-digits (2 ^ 64) m (number_of (2 ^ width code) (map f items)) in
    let there : slice_get (digits (2 ^ 64) m (number_of (2 ^ width code) (map f items))) (length items / each) ≡ Some word =
    number_digit_at f code each m (length items / each) (length items) word items some known each_is inside m_is (omega (arith, p.few)) fit word_is in
    next_put (length items / each) word block new old (digits (2 ^ 64) m (number_of (2 ^ width code) (map f items))) there (omega (arith, inside, long)) (omega (arith, old_is, long)) is so_far

pub numbers_end : (x m i : ℕ) (block : List ℕ) (old : List ℕ) → length old ≡ m → m ≤ i → words_of block ≡ put 0 (take i (digits (2 ^ 64) m x)) old → words_of block ≡ digits (2 ^ 64) m x
numbers_end x m i block old old_is past is =
    let long = length-digits (2 ^ 64) m x in
    all_put (digits (2 ^ 64) m x) old block i (omega (arith, old_is, long)) (omega (arith, past, long)) is
