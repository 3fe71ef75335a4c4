-- Lists of numbers as words: how many words, which numbers make which word, and that these words are the list that
-- is put into a block.
use native.Mathlib.Nat.{pow-zero, pow-suc, one-mul, pow-le-pow_right}
use Rattle.std.proofs.Common.{◌≡◌, ℕ, zero, suc, ◌+◌, ◌-◌, ◌*◌, ◌/◌, ◌%◌, ◌<◌, ◌≤◌, ◌^◌, Bool, true, false, List, [], ◌∷◌, ◌++◌, length, map, take, drop, Some, slice_get, refl, sym, ◌∙◌, ap, subst, arith, get_or, length-take, length-drop, drop-drop}
use Rattle.std.specs.Prelude.{All, min}
use Rattle.std.proofs.Math.Nat.{mul-le-mul_left}
use Rattle.std.proofs.lemmas.List.{take-map, drop-map, length-map}
use Rattle.std.proofs.lemmas.List.Elements.{All-cons, All-take, All-drop}
use Rattle.capnp_layout.specs.Prelude.{digits, number_of, words_of, width, words_for, numbers, Trees, none, tree, total_words, own, output, AllHaveRoom, put}
use Rattle.capnp_wire.specs.Prelude.{HasRoomAt}
use Rattle.capnp_layout.proofs.words.WordsOfBytesLemmas.{length-words_of}
use Rattle.capnp_layout.proofs.words.PutBytesAsWordsLemmas.{put_mid_words}
use Rattle.capnp_wire.proofs.layouts.NullAndNumbersWrittenLemmas.{numbers_total as numbers_total_of}
use Rattle.capnp_wire.proofs.views.UniqueValueTreeAndMeasureLemmas.{IsOne}
use Rattle.capnp_layout.proofs.objects.ByteListElementLemmas.{low_digit, high_digits}
use Rattle.capnp_layout.proofs.words.DigitsToNumberAndBackLemmas.{number_below, pow-mul}
use Rattle.capnp_values.specs.NumberLists.{IsNumberList, ManyNumbers}
use Rattle.capnp_values.proofs.lists.ItemMeasureLemmas.{from_here}

-- what is measured of a list
numbers_total : (c : Bool) (code : ℕ) (bits : List ℕ) → words_for (length bits) (width code) ≡ total_words (output c (tree (numbers code bits) none none))
numbers_total true code bits = omega arith
numbers_total false code bits = omega arith

pub one_of_number_list : (code : ℕ) (bits : List ℕ) (n : ℕ) → n ≡ length bits → IsOne (λ t. IsNumberList code bits t) (λ k. ManyNumbers n k)
one_of_number_list code bits n n_is = record {
  same_tree = λ a b x y. x.1 ∙ sym y.1;
  same_error = λ a b x y. x.1 ∙ sym y.1;
  apart = λ kind trees x y. absurd (omega (arith, x.0, y.0, n_is));
}

-- the bits of some numbers in one word
pub word_small : (w : ℕ) (bits : List ℕ) → All (λ v. v < 2 ^ w) bits → length bits * w ≤ 64 → number_of (2 ^ w) bits < 2 ^ 64
word_small w bits fit room =
    let below : number_of (2 ^ w) bits < (2 ^ w) ^ length bits = number_below (2 ^ w) bits fit in
    let power : 2 ^ (w * length bits) ≡ (2 ^ w) ^ length bits = pow-mul 2 w (length bits) in
    let positive : 0 < 2 = omega arith in
    let few : w * length bits ≤ 64 = omega (arith, room) in
    let most : 2 ^ (w * length bits) ≤ 2 ^ 64 = pow-le-pow_right positive few in
    omega (arith, below, power, most)

nothing : (n : ℕ) → n * 0 ≡ 0
nothing n = omega arith

-- the first of some digits, and the others
pub record InTwo (base k : ℕ) (digits_there : List ℕ) : Type 0 where
  pub low : number_of base (take k digits_there) < base ^ k
  pub whole : number_of base digits_there ≡ number_of base (take k digits_there) + base ^ k * number_of base (drop k digits_there)

split_digits : (base k : ℕ) (ds : List ℕ) → number_of base ds ≡ number_of base (take k ds) + base ^ k * number_of base (drop k ds)
split_digits base zero ds = rw (pow-zero, one-mul) (omega arith)
split_digits base (suc k) [] = let none : base ^ suc k * 0 ≡ 0 = nothing (base ^ suc k) in omega (arith, none)
split_digits base (suc k) (d ∷ ds) = rw (split_digits base k ds, pow-suc base k) (omega arith)

pub in_two : (base k : ℕ) (ds : List ℕ) → 0 < base → All (λ d. d < base) ds → InTwo base k ds
in_two base k ds positive fit =
    let below : number_of base (take k ds) < base ^ length (take k ds) = number_below base (take k ds) (All-take (λ d. d < base) k ds fit) in
    let power : base ^ length (take k ds) ≤ base ^ k = pow-le-pow_right positive (omega (arith, length-take k ds)) in
    record { low = omega (arith, below, power); whole = split_digits base k ds }

-- a digit of a larger base is the number of its digits
pub digit_is : (base k big m i : ℕ) (ds : List ℕ) → 0 < base → All (λ d. d < base) ds → base ^ k ≡ big → i < m
    → slice_get (digits big m (number_of base ds)) i ≡ Some (number_of base (take k (drop (i * k) ds)))
digit_is base k big zero i ds positive fit power within = absurd (omega (arith, within))
digit_is base k big (suc m) zero ds positive fit power within =
    let two = in_two base k ds positive fit in
    let low : number_of base (take k ds) < big = omega (arith, two.low, power) in
    let whole : number_of base ds ≡ number_of base (take k ds) + big * number_of base (drop k ds) =
    two.whole ∙ ap (λ (n : ℕ). number_of base (take k ds) + n * number_of base (drop k ds)) power in
    let first : number_of base ds % big ≡ number_of base (take k ds) = ap (λ (n : ℕ). n % big) whole ∙ low_digit big (number_of base (take k ds)) (number_of base (drop k ds)) low in
    let start : 0 * k ≡ 0 = omega arith in
    ap (λ (n : ℕ). Some n) (first ∙ sym (ap (λ (n : ℕ). number_of base (take k (drop n ds))) start))
digit_is base k big (suc m) (suc i) ds positive fit power within =
    let two = in_two base k ds positive fit in
    let low : number_of base (take k ds) < big = omega (arith, two.low, power) in
    let whole : number_of base ds ≡ number_of base (take k ds) + big * number_of base (drop k ds) =
    two.whole ∙ ap (λ (n : ℕ). number_of base (take k ds) + n * number_of base (drop k ds)) power in
    let others : number_of base ds / big ≡ number_of base (drop k ds) = ap (λ (n : ℕ). n / big) whole ∙ high_digits big (number_of base (take k ds)) (number_of base (drop k ds)) low in
    let there : k + i * k ≡ suc i * k = omega arith in
    ap (λ (n : ℕ). slice_get (digits big m n) i) others
    ∙ digit_is base k big m i (drop k ds) positive (All-drop (λ d. d < base) k ds fit) power (omega (arith, within))
    ∙ ap (λ (l : List ℕ). Some (number_of base (take k l))) (drop-drop (i * k) k ds ∙ ap (λ (n : ℕ). drop n ds) there)

-- a word may hold fewer elements than it has room for
take_min : {V : Type 0} (k n : ℕ) (xs : List V) → n ≡ min k (length xs) → take n xs ≡ take k xs
take_min zero n xs is = ap (λ (m : ℕ). take m xs) (let none : n ≡ 0 = omega (arith, is) in none)
take_min (suc k) zero [] is = refl
take_min (suc k) (suc n) [] is = refl
take_min (suc k) zero (x ∷ xs) is = absurd (omega (arith, is))
take_min {V = V} (suc k) (suc n) (x ∷ xs) is = ap (λ (l : List V). x ∷ l) (take_min k n xs (omega (arith, is)))

pub chunk_is : {V : Type 0} (f : V → ℕ) (base each first last : ℕ) (items : List V) → last ≡ min (first + each) (length items) → first ≤ length items
    → number_of base (map f (take (last - first) (drop first items))) ≡ number_of base (take each (drop first (map f items)))
chunk_is {V = V} f base each first last items last_is within =
    let some : last - first ≡ min each (length (drop first items)) = omega (arith, last_is, within, length-drop first items) in
    ap (λ (l : List V). number_of base (map f l)) (take_min each (last - first) (drop first items) some)
    ∙ ap (number_of base) (sym (take-map f each (drop first items)))
    ∙ ap (λ (l : List ℕ). number_of base (take each l)) (sym (drop-map f first items))

-- the elements of a word
pub each_of : (code each : ℕ) → 0 < code → code < 6 → each ≡ 64 / width code → (each * width code ≡ 64) × (0 < each)
each_of zero each some known is = absurd (omega (arith, some))
each_of (suc zero) each some known is = (omega (arith, is), omega (arith, is))
each_of (suc (suc zero)) each some known is = (omega (arith, is), omega (arith, is))
each_of (suc (suc (suc zero))) each some known is = (omega (arith, is), omega (arith, is))
each_of (suc (suc (suc (suc zero)))) each some known is = (omega (arith, is), omega (arith, is))
each_of (suc (suc (suc (suc (suc zero))))) each some known is = (omega (arith, is), omega (arith, is))
each_of (suc (suc (suc (suc (suc (suc code)))))) each some known is = absurd (omega (arith, known))

pub word_of_elements_within : (code each n index : ℕ) → 0 < code → code < 6 → each ≡ 64 / width code → index < words_for n (width code) → index * each < n
word_of_elements_within zero each n index some known is within = absurd (omega (arith, some))
word_of_elements_within (suc zero) each n index some known is within = let e : each ≡ 64 = is in rw e (omega (arith, within))
word_of_elements_within (suc (suc zero)) each n index some known is within = let e : each ≡ 8 = is in rw e (omega (arith, within))
word_of_elements_within (suc (suc (suc zero))) each n index some known is within = let e : each ≡ 4 = is in rw e (omega (arith, within))
word_of_elements_within (suc (suc (suc (suc zero)))) each n index some known is within = let e : each ≡ 2 = is in rw e (omega (arith, within))
word_of_elements_within (suc (suc (suc (suc (suc zero))))) each n index some known is within = let e : each ≡ 1 = is in rw e (omega (arith, within))
word_of_elements_within (suc (suc (suc (suc (suc (suc code)))))) each n index some known is within = absurd (omega (arith, known))

pub base_power : (code each : ℕ) → each * width code ≡ 64 → (2 ^ width code) ^ each ≡ 2 ^ 64
base_power code each room = sym (pow-mul 2 (width code) each) ∙ ap (λ (n : ℕ). 2 ^ n) (let e : width code * each ≡ 64 = omega (arith, room) in e)

-- the words of a list that are put into a block
pub numbers_put : (code n at k : ℕ) (bits block part : List ℕ) → n ≡ length bits → words_of part ≡ digits (2 ^ 64) (words_for n (width code)) (number_of (2 ^ width code) bits)
    → length part ≡ 8 * words_for n (width code) → k ≡ 8 * words_for n (width code) → at + words_for n (width code) ≤ length (words_of block)
    → words_of (take (8 * at) block ++ (part ++ drop k (drop (8 * at) block))) ≡ put at (own (numbers code bits) []) (words_of block)
numbers_put code n at k bits block part n_is part_is long k_is room =
    ap (λ (j : ℕ). words_of (take (8 * at) block ++ (part ++ drop j (drop (8 * at) block)))) (k_is ∙ sym long)
    ∙ put_mid_words at block part (omega (arith, long)) (omega (arith, long, room, length-words_of block))
    ∙ ap (λ (l : List ℕ). put at l (words_of block)) (part_is ∙ ap (λ (j : ℕ). digits (2 ^ 64) (words_for j (width code)) (number_of (2 ^ width code) bits)) n_is)

-- one number in front of others
pub fit_front : {V : Type 0} (f : V → ℕ) (base : ℕ) (items : List V) (i left : ℕ) (v : V) → left ≡ i + 1 → i < length items → v ≡ get_or items i v → f v < base
    → All (λ k. k < base) (map f (drop left items)) → All (λ k. k < base) (map f (drop i items))
fit_front {V = V} f base items i left v left_is within is small others =
    let there : All (λ k. k < base) (map f (drop (i + 1) items)) = subst (λ (n : ℕ). All (λ k. k < base) (map f (drop n items))) left_is others in
    subst (λ (l : List V). All (λ k. k < base) (map f l)) (sym (from_here items i v within is)) (All-cons (λ k. k < base) (f v) (map f (drop (i + 1) items)) small there)

pub number_front : {V : Type 0} (f : V → ℕ) (base : ℕ) (items : List V) (i left : ℕ) (v : V) → left ≡ i + 1 → i < length items → v ≡ get_or items i v
    → f v + base * number_of base (map f (drop left items)) ≡ number_of base (map f (drop i items))
number_front {V = V} f base items i left v left_is within is =
    ap (λ (n : ℕ). f v + base * number_of base (map f (drop n items))) left_is
    ∙ sym (ap (λ (l : List V). number_of base (map f l)) (from_here items i v within is))

pub front_small : {V : Type 0} (f : V → ℕ) (w : ℕ) (items : List V) (i left : ℕ) (v : V) → left ≡ i + 1 → i < length items → v ≡ get_or items i v → f v < 2 ^ w
    → All (λ k. k < 2 ^ w) (map f (drop left items)) → length items * w ≤ 64 → f v + 2 ^ w * number_of (2 ^ w) (map f (drop left items)) < 2 ^ 64
front_small f w items i left v left_is within is small others room =
    let fit = fit_front f (2 ^ w) items i left v left_is within is small others in
    let some : length (map f (drop i items)) ≤ length items = omega (arith, length-map (drop i items) f, length-drop i items) in
    let area : w * length (map f (drop i items)) ≤ w * length items = mul-le-mul_left w some in
    omega (arith, number_front f (2 ^ w) items i left v left_is within is, word_small w (map f (drop i items)) fit (omega (arith, area, room)))

-- a word of a list is the word that its elements make
positive_base : (w : ℕ) → 0 < 2 ^ w
positive_base w =
    let positive : 0 < 2 = omega arith in
    let least : 0 ≤ w = omega arith in
    let one : 2 ^ 0 ≤ 2 ^ w = pow-le-pow_right positive least in
    omega (arith, one)

pub number_digit_at : {V : Type 0} (f : V → ℕ) (code each m i last word : ℕ) (items : List V) → 0 < code → code < 6 → each ≡ 64 / width code → i < m → m ≡ words_for (length items) (width code)
    → last ≡ min (i * each + each) (length items) → All (λ k. k < 2 ^ width code) (map f items)
    → word ≡ number_of (2 ^ width code) (map f (take (last - i * each) (drop (i * each) items)))
    → slice_get (digits (2 ^ 64) m (number_of (2 ^ width code) (map f items))) i ≡ Some word
number_digit_at f code each m i last word items some known each_is within m_is last_is fit word_is =
    let room = each_of code each some known each_is in
    let inside : i * each < length items = word_of_elements_within code each (length items) i some known each_is (omega (arith, within, m_is)) in
    digit_is (2 ^ width code) each (2 ^ 64) m i (map f items) (positive_base (width code)) fit (base_power code each room.0) within
    ∙ ap (λ (n : ℕ). Some n) (sym (chunk_is f (2 ^ width code) each (i * each) last items last_is (omega (arith, inside))) ∙ sym word_is)

pub list_fits : (code : ℕ) (bits : List ℕ) (trees : Trees) → IsNumberList code bits trees → AllHaveRoom trees → All (λ v. v < 2 ^ width code) bits
list_fits code bits trees is rooms = (subst AllHaveRoom is.1 rooms).0.3

-- a list that has room in a block
pub list_room : {V : Type 0} (code : ℕ) (f : V → ℕ) (items : List V) (c : Bool) (next room : ℕ) → HasRoomAt (λ t. IsNumberList code (map f items) t) c next room
    → (length items < 2 ^ 29) × (next + words_for (length items) (width code) ≤ room)
list_room code f items c next room w =
    let same : length (map f items) ≡ length items = length-map items f in
    let total = numbers_total_of c code (map f items) w.trees w.tree_is.1 in
    (omega (arith, w.tree_is.0, same), omega (arith, w.fits, total, ap (λ (k : ℕ). words_for k (width code)) same))

-- the part of a block that some words take
pub block_part_long : (next n : ℕ) (block : List ℕ) → next + n ≤ length (words_of block) → length (take (8 * (next + n) - 8 * next) (drop (8 * next) block)) ≡ 8 * n
block_part_long next n block fits =
    omega (arith, fits, length-words_of block, length-take (8 * (next + n) - 8 * next) (drop (8 * next) block), length-drop (8 * next) block)
