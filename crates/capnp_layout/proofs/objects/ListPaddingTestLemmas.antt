-- The bits after the last element of a list of numbers are zero exactly where the last word has none of them.
use Rattle.std.proofs.Math.Nat.{mul-le-mul_left, lt_of_mul-lt-mul_left, lt-div-mul-add, div-eq_of_lt, zero-mul}
use Rattle.std.proofs.lemmas.Nat.{pow_pos, pow-add}
use Rattle.std.proofs.lemmas.List.{drop-drop}
use Rattle.std.proofs.Common.{◌≡◌, ℕ, suc, ◌+◌, ◌*◌, ◌/◌, ◌^◌, ◌<◌, ◌≤◌, List, [], ◌∷◌, ◌++◌, length, take, drop, slice_index_or, sym, ◌∙◌, ap, subst, arith}
use Rattle.std.specs.Prelude.{All, ◌↔◌}
use Rattle.capnp_layout.specs.Prelude.{digits, number_of, words_from, words_for}
use Rattle.capnp_layout.proofs.words.WordsOfBytesLemmas.{number-append, take-add}
use Rattle.capnp_layout.proofs.words.DigitsToNumberAndBackLemmas.{length-digits, digits-number_of, number_below, number-digits, room_for, pow-mul}
use Rattle.capnp_layout.proofs.trees.ReadTreeSizesAndWordsBoundedLemmas.{digits_below, words_from_below as stretch_below}
use Rattle.capnp_layout.proofs.words.SubsliceLengthAndFirstWordLemmas.{length-subslice, drop_first}

-- words are padded where their number has no more bits than the elements
pub padded_small : (words : List ℕ) (s w n k : ℕ) → All (λ x. x < 2 ^ 64) words → k ≡ words_for n w → s + k ≤ length words
    → number_of (2 ^ 64) (words_from words s k) < (2 ^ w) ^ n
    → words_from words s k ≡ digits (2 ^ 64) k (number_of (2 ^ w) (digits (2 ^ w) n (number_of (2 ^ 64) (words_from words s k))))
padded_small words s w n k all is room small =
    let back = number-digits (2 ^ w) n (number_of (2 ^ 64) (words_from words s k)) (pow_pos w) small in
    let long = length-subslice words s k room in
    let same = digits-number_of (2 ^ 64) (words_from words s k) (stretch_below words s k all) in
    rw back (sym (ap (λ (j : ℕ). digits (2 ^ 64) j (number_of (2 ^ 64) (words_from words s k))) (sym long) ∙ same))

pub small_padded : (words : List ℕ) (s w n k : ℕ) → k ≡ words_for n w
    → words_from words s k ≡ digits (2 ^ 64) k (number_of (2 ^ w) (digits (2 ^ w) n (number_of (2 ^ 64) (words_from words s k))))
    → number_of (2 ^ 64) (words_from words s k) < (2 ^ w) ^ n
small_padded words s w n k is padded =
    let values = digits (2 ^ w) n (number_of (2 ^ 64) (words_from words s k)) in
    let fits = digits_below (2 ^ w) n (number_of (2 ^ 64) (words_from words s k)) (pow_pos w) in
    let below : number_of (2 ^ w) values < (2 ^ w) ^ n =
    subst (λ (j : ℕ). number_of (2 ^ w) (digits (2 ^ w) n (number_of (2 ^ 64) (words_from words s k))) < (2 ^ w) ^ j) (length-digits (2 ^ w) n (number_of (2 ^ 64) (words_from words s k)))
    (number_below (2 ^ w) (digits (2 ^ w) n (number_of (2 ^ 64) (words_from words s k))) fits) in
    let room : (2 ^ w) ^ n ≤ (2 ^ 64) ^ k = rw is (room_for w n) in
    let back : number_of (2 ^ 64) (digits (2 ^ 64) k (number_of (2 ^ w) values)) ≡ number_of (2 ^ w) values =
    number-digits (2 ^ 64) k (number_of (2 ^ w) (digits (2 ^ w) n (number_of (2 ^ 64) (words_from words s k)))) (omega arith) (omega arith) in
    let same : number_of (2 ^ 64) (words_from words s k) ≡ number_of (2 ^ w) values = ap (number_of (2 ^ 64)) padded ∙ back in
    rw same below

-- where whole words are used up
pub whole_small : (words : List ℕ) (s w n k : ℕ) → All (λ x. x < 2 ^ 64) words → s + k ≤ length words → n * w ≡ 64 * k
    → number_of (2 ^ 64) (words_from words s k) < (2 ^ w) ^ n
whole_small words s w n k all room bits =
    let below = number_below (2 ^ 64) (words_from words s k) (stretch_below words s k all) in
    let long = length-subslice words s k room in
    let swap : w * n ≡ 64 * k = omega arith in
    let same : (2 ^ 64) ^ k ≡ (2 ^ w) ^ n = sym (pow-mul 2 64 k) ∙ ap (λ (j : ℕ). 2 ^ j) (sym swap) ∙ pow-mul 2 w n in
    subst (λ (m : ℕ). number_of (2 ^ 64) (words_from words s k) < m) (ap (λ (j : ℕ). (2 ^ 64) ^ j) long ∙ same) below

-- where r bits of a last word are
last_word : (words : List ℕ) (s q : ℕ) → s + q < length words → words_from words s (q + 1) ≡ words_from words s q ++ slice_index_or words (s + q) 0 ∷ []
last_word words s q room = take-add q 1 (drop s words) ∙ ap (λ (l : List ℕ). words_from words s q ++ take 1 l) (drop-drop q s words ∙ drop_first words (s + q) room)

last_small : (front unit last r : ℕ) → front < unit → last < r → front + unit * last < unit * r
last_small front unit last r below small =
    let h : unit * suc last ≤ unit * r = mul-le-mul_left unit small in
    omega arith

small_last : (front unit last r : ℕ) → front + unit * last < unit * r → last < r
small_last front unit last r small = lt_of_mul-lt-mul_left unit (let h : unit * last < unit * r = omega arith in h)

pub part_small : (words : List ℕ) (s w n q r : ℕ) → All (λ x. x < 2 ^ 64) words → s + q < length words → n * w ≡ 64 * q + r
    → (slice_index_or words (s + q) 0 < 2 ^ r) ↔ (number_of (2 ^ 64) (words_from words s (q + 1)) < (2 ^ w) ^ n)
part_small words s w n q r all room bits =
    let front = words_from words s q in
    let last = slice_index_or words (s + q) 0 in
    let split : number_of (2 ^ 64) (words_from words s (q + 1)) ≡ number_of (2 ^ 64) (words_from words s q) + (2 ^ 64) ^ q * slice_index_or words (s + q) 0 =
    ap (number_of (2 ^ 64)) (last_word words s q room) ∙ number-append (2 ^ 64) (words_from words s q) (slice_index_or words (s + q) 0 ∷ [])
    ∙ ap (λ (j : ℕ). number_of (2 ^ 64) (words_from words s q) + (2 ^ 64) ^ j * (slice_index_or words (s + q) 0 + 2 ^ 64 * 0)) (length-subslice words s q (omega arith))
    ∙ ap (λ (j : ℕ). number_of (2 ^ 64) (words_from words s q) + (2 ^ 64) ^ q * j) (omega arith) in
    let below : number_of (2 ^ 64) (words_from words s q) < (2 ^ 64) ^ q =
    subst (λ (j : ℕ). number_of (2 ^ 64) (words_from words s q) < (2 ^ 64) ^ j) (length-subslice words s q (omega arith)) (number_below (2 ^ 64) (words_from words s q) (stretch_below words s q all)) in
    let swap : w * n ≡ 64 * q + r = omega arith in
    let whole : (2 ^ w) ^ n ≡ (2 ^ 64) ^ q * 2 ^ r = sym (pow-mul 2 w n) ∙ ap (λ (j : ℕ). 2 ^ j) swap ∙ pow-add 2 (64 * q) r ∙ ap (λ (j : ℕ). j * 2 ^ r) (pow-mul 2 64 q) in (
      λ small. rw (split, whole) (last_small (number_of (2 ^ 64) (words_from words s q)) ((2 ^ 64) ^ q) (slice_index_or words (s + q) 0) (2 ^ r) below small),
      λ small.
          let there : number_of (2 ^ 64) (words_from words s q) + (2 ^ 64) ^ q * slice_index_or words (s + q) 0 < (2 ^ 64) ^ q * 2 ^ r = rw (split, whole) at small in
          small_last (number_of (2 ^ 64) (words_from words s q)) ((2 ^ 64) ^ q) (slice_index_or words (s + q) 0) (2 ^ r) there,
    )

-- the bits after some are zero
pub no_bits_after : (last r : ℕ) → (last / 2 ^ r ≡ 0) ↔ (last < 2 ^ r)
no_bits_after last r = (
  λ none.
      let h : last < last / 2 ^ r * 2 ^ r + 2 ^ r = lt-div-mul-add (pow_pos r) in
      let zero_there : last / 2 ^ r * 2 ^ r ≡ 0 = ap (λ (j : ℕ). j * 2 ^ r) none ∙ zero-mul (2 ^ r) in
      omega arith,
  λ small. div-eq_of_lt small,
)
