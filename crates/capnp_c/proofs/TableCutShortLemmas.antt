-- Where a table is cut, zeros are in place of what isn't there: no number that it declares is larger, so it is accepted where
-- the whole one is.
use Rattle.std.proofs.Common.{◌≡◌, ℕ, zero, suc, ◌+◌, ◌-◌, ◌*◌, ◌<◌, ◌≤◌, inl, inr, Option, Some, None, IfSome, List, [], ◌∷◌, ◌++◌, length, take, drop, get_or, replicate, refl, sym, ap, ◌∙◌, arith, length-append, length-take}
use Rattle.std.proofs.lemmas.Bool.{cases_lt}
use Rattle.std.proofs.lemmas.List.{get_or_append_left, get_or-append_right, get_or-drop, get_or-take}
use Rattle.std.specs.Prelude.{sum}
use Rattle.std.proofs.lemmas.List.Sums.{sum_by-cons}
use Rattle.capnp_frame.specs.declared.message.options.ReaderOptions.{ReaderOptions}
use Rattle.capnp_frame.specs.Prelude.{declared_lengths, declared_padding, number, table_size}
use Rattle.capnp_frame.specs.Front.{numbers}
use Rattle.capnp_c.specs.Sizes.{IsAcceptedTable, declared_count, table_front}

-- no byte is larger
abbrev Low : List ℕ → List ℕ → Type 0
Low xs ys = (i : ℕ) → get_or xs i 0 ≤ get_or ys i 0

past_end : (xs : List ℕ) (i : ℕ) → length xs ≤ i → get_or xs i 0 ≡ 0
past_end [] i past = refl
past_end (x ∷ xs) zero past = absurd (omega arith)
past_end (x ∷ xs) (suc i) past = past_end xs i (omega arith)

zero_at : (n i : ℕ) → get_or {A = ℕ} (replicate n 0) i 0 ≡ 0
zero_at zero i = refl
zero_at (suc n) zero = refl
zero_at (suc n) (suc i) = zero_at n i

all_zero : (xs : List ℕ) → ((i : ℕ) → get_or xs i 0 ≡ 0) → xs ≡ replicate (length xs) 0
all_zero [] each = refl
all_zero (x ∷ xs) each = ap (λ k. k ∷ xs) (each 0) ∙ ap (λ l. 0 ∷ l) (all_zero xs (λ i. each (suc i)))

low_drop : (n : ℕ) (xs ys : List ℕ) → Low xs ys → Low (drop n xs) (drop n ys)
low_drop n xs ys low = λ i. omega (arith, get_or-drop n xs i 0, get_or-drop n ys i 0, low (n + i))

low_take : (n : ℕ) (xs ys : List ℕ) → Low xs ys → Low (take n xs) (take n ys)
low_take n xs ys low = λ i. elim (cases_lt i n) [
  | inl inside ↦ omega (arith, get_or-take n xs i 0 inside, get_or-take n ys i 0 inside, low i)
  | inr past ↦ omega (arith, past_end (take n xs) i (omega (arith, length-take n xs)))
]

low_number : (xs ys : List ℕ) → Low xs ys → number xs ≤ number ys
low_number xs ys low =
    let first = low_take 4 xs ys low in
    omega (arith, first 0, first 1, first 2, first 3)

low_sum : (n m : ℕ) (xs ys : List ℕ) → n ≤ m → Low xs ys → sum (numbers n xs) ≤ sum (numbers m ys)
low_sum zero m xs ys less low = omega arith
low_sum (suc n) zero xs ys less low = absurd (omega arith)
low_sum (suc n) (suc m) xs ys less low =
    let ours : sum (numbers (suc n) xs) ≡ number xs + sum (numbers n (drop 4 xs)) = sum_by-cons (λ x. x) (number xs) (numbers n (drop 4 xs)) in
    let theirs : sum (numbers (suc m) ys) ≡ number ys + sum (numbers m (drop 4 ys)) = sum_by-cons (λ x. x) (number ys) (numbers m (drop 4 ys)) in
    let others = low_sum n m (drop 4 xs) (drop 4 ys) (omega arith) (low_drop 4 xs ys low) in
    omega (arith, ours, theirs, low_number xs ys low, others)

-- the front of some bytes, and of these with more after them

front_there : (bytes : List ℕ) (i : ℕ) → i < length bytes → i < 2048 → get_or (table_front bytes) i 0 ≡ get_or bytes i 0
front_there bytes i inside few =
    get_or_append_left (take 2048 bytes) (replicate (2048 - length bytes) 0) 0 i (omega (arith, length-take 2048 bytes)) ∙ get_or-take 2048 bytes i 0 few

front_past : (bytes : List ℕ) (i : ℕ) → length (take 2048 bytes) ≤ i → get_or (table_front bytes) i 0 ≡ 0
front_past bytes i past =
    get_or-append_right (take 2048 bytes) (replicate (2048 - length bytes) 0) (length (take 2048 bytes)) i 0 refl past ∙ zero_at (2048 - length bytes) (i - length (take 2048 bytes))

front_same : (bytes more : List ℕ) (i : ℕ) → i < length bytes → i < 2048 → get_or (table_front bytes) i 0 ≡ get_or (table_front (bytes ++ more)) i 0
front_same bytes more i inside few =
    front_there bytes i inside few ∙ sym (get_or_append_left bytes more 0 i inside)
    ∙ sym (front_there (bytes ++ more) i (omega (arith, length-append bytes more, inside)) few)

front_low : (bytes more : List ℕ) → Low (table_front bytes) (table_front (bytes ++ more))
front_low bytes more = λ i. elim (cases_lt i (length (take 2048 bytes))) [
  | inl inside ↦ (
      let cut = length-take 2048 bytes in
      omega (arith, front_same bytes more i (omega (arith, cut, inside)) (omega (arith, cut, inside))))
  | inr past ↦ omega (arith, front_past bytes i past)
]

-- the first four bytes are the same, where they are there
same_number : (bytes more : List ℕ) → 4 ≤ length bytes → number (table_front bytes) ≡ number (table_front (bytes ++ more))
same_number bytes more there = omega (arith, byte 0 (omega arith), byte 1 (omega arith), byte 2 (omega arith), byte 3 (omega arith))
  where
    byte : (i : ℕ) → i < 4 → get_or (take 4 (table_front bytes)) i 0 ≡ get_or (take 4 (table_front (bytes ++ more))) i 0
    byte i few = get_or-take 4 (table_front bytes) i 0 few ∙ front_same bytes more i (omega (arith, few, there)) (omega (arith, few)) ∙ sym (get_or-take 4 (table_front (bytes ++ more)) i 0 few)

padding_low : (count : ℕ) (xs ys : List ℕ) → Low xs ys → Low (declared_padding count xs) (declared_padding count ys)
padding_low count xs ys low = low_drop (4 * (count + 1)) (take (table_size count) xs) (take (table_size count) ys) (low_take (table_size count) xs ys low)

-- and else no byte of the padding is there
cut_padding : (count : ℕ) (bytes : List ℕ) → length bytes < 4 → (i : ℕ) → get_or (declared_padding count (table_front bytes)) i 0 ≡ 0
cut_padding count bytes short i =
    let xs = table_front bytes in
    let at = 4 * (count + 1) + i in
    let past = front_past bytes at (omega (arith, length-take 2048 bytes, short)) in
    let dropped = get_or-drop (4 * (count + 1)) (take (table_size count) xs) i 0 in
    elim (cases_lt at (table_size count)) [
      | inl inside ↦ dropped ∙ get_or-take (table_size count) xs at 0 inside ∙ past
      | inr over ↦ dropped ∙ past_end (take (table_size count) xs) at (omega (arith, length-take (table_size count) xs, over))
    ]

pub cut_short : (options : ReaderOptions) (bytes more : List ℕ) → IsAcceptedTable options (table_front (bytes ++ more)) → IsAcceptedTable options (table_front bytes)
cut_short options bytes more whole =
    let xs = table_front bytes in
    let ys = table_front (bytes ++ more) in
    let low = front_low bytes more in
    let few = whole.few in
    let counts = low_number xs ys low in
    let sums : sum (declared_lengths (declared_count xs) xs) ≤ sum (declared_lengths (declared_count ys) ys) =
    low_sum (declared_count xs) (declared_count ys) (drop 4 xs) (drop 4 ys) (omega (arith, counts)) (low_drop 4 xs ys low) in
    record {
      few = omega (arith, few, counts);
      keeps = limit options.traversal_limit_in_words sums whole.keeps;
      padding = all_zero (declared_padding (declared_count xs) xs) (elim (cases_lt (length bytes) 4) [
        | inl short ↦ cut_padding (declared_count xs) bytes short
        | inr there ↦ same (same_number bytes more there)
      ]);
    }
  where
    limit : {a b : ℕ} (most : Option ℕ) → a ≤ b → IfSome most (λ k. b ≤ k) → IfSome most (λ k. a ≤ k)
    limit None less keeps = tt
    limit (Some most) less keeps = omega (arith, less, keeps)

    same : number (table_front bytes) ≡ number (table_front (bytes ++ more)) → (i : ℕ) → get_or (declared_padding (declared_count (table_front bytes)) (table_front bytes)) i 0 ≡ 0
    same e i =
        let ys = table_front (bytes ++ more) in
        let less = padding_low (declared_count (table_front bytes)) (table_front bytes) ys (front_low bytes more) i in
        let none : get_or (declared_padding (declared_count ys) ys) i 0 ≡ 0 = ap (λ l. get_or l i 0) whole.padding ∙ zero_at (length (declared_padding (declared_count ys) ys)) i in
        let here : get_or (declared_padding (declared_count (table_front bytes)) ys) i 0 ≡ 0 = ap (λ k. get_or (declared_padding (k + 1) ys) i 0) e ∙ none in
        omega (arith, less, here)
