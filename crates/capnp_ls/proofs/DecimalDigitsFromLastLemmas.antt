-- The decimal digits of a number, put one by one from the last: after each of them the digits put so far are the
-- end of the number.
use Rattle.std.proofs.Common.{◌≡◌, ℕ, zero, suc, ◌+◌, ◌-◌, ◌/◌, ◌%◌, ◌^◌, ◌<◌, ◌≤◌, List, [], ◌∷◌, ◌++◌, length, drop, set, sym, ap, ◌∙◌, arith, append_assoc}
use Rattle.std.proofs.Math.Nat.{pow-suc}
use Rattle.std.proofs.lemmas.List.{drop-set}
use Rattle.std.proofs.lemmas.Fmt.{decimal_step, decimal_digit}
use Rattle.std.specs.Prelude.{decimal}

-- a number of two digits has room for one more
pub two_places : (left at : ℕ) → 10 ≤ left → left < 10 ^ at → 2 ≤ at
two_places left zero some low = absurd (omega arith)
two_places left (suc zero) some low = absurd (omega arith)
two_places left (suc (suc at)) some low = omega arith

pub tenth_below : (left at : ℕ) → 2 ≤ at → left < 10 ^ at → left / 10 < 10 ^ (at - 1)
tenth_below left zero some low = absurd (omega arith)
tenth_below left (suc at) some low = let one : suc at - 1 ≡ at = omega arith in rw one (omega (arith, pow-suc 10 at))

-- one more digit
pub digit_more : (number left at : ℕ) (digits : List ℕ) → 10 ≤ left → left < 2 ^ 64 → 1 ≤ at → at ≤ length digits
    → decimal number ≡ decimal left ++ drop at digits
    → decimal number ≡ decimal (left / 10) ++ drop (at - 1) (set digits (at - 1) (48 + left % 10))
digit_more number left at digits some low room within so_far =
    let back : at - 1 + 1 ≡ at = omega arith in
    so_far
    ∙ ap (λ l. l ++ drop at digits) (decimal_step left some low)
    ∙ append_assoc (decimal (left / 10)) ((48 + left % 10) ∷ []) (drop at digits)
    ∙ ap (λ k. decimal (left / 10) ++ (48 + left % 10) ∷ drop k digits) (sym back)
    ∙ ap (λ l. decimal (left / 10) ++ l) (sym (drop-set digits (at - 1) (48 + left % 10) (omega arith)))

-- the first digit
pub digit_first : (number left at : ℕ) (digits : List ℕ) → left < 10 → 1 ≤ at → at ≤ length digits
    → decimal number ≡ decimal left ++ drop at digits → decimal number ≡ drop (at - 1) (set digits (at - 1) (48 + left))
digit_first number left at digits low room within so_far =
    let back : at - 1 + 1 ≡ at = omega arith in
    so_far
    ∙ ap (λ l. l ++ drop at digits) (decimal_digit left low)
    ∙ ap (λ k. (48 + left) ∷ drop k digits) (sym back)
    ∙ sym (drop-set digits (at - 1) (48 + left) (omega arith))
