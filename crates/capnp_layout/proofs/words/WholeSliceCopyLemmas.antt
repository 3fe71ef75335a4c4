-- Bytes in which as many others are copied from the front on are these others.
use Rattle.std.proofs.Common.{◌≡◌, ℕ, List, ◌++◌, length, take, drop, ◌∙◌, ap, arith, length-take}
use Rattle.std.proofs.lemmas.List.{append-nil, take_all, drop_all}

pub length_of_front : (n : ℕ) (to from : List ℕ) → length to ≡ length from → length (take n to) ≡ length (take n from)
length_of_front n to from same = omega (arith, same, length-take n to, length-take n from)

pub front_is_whole : (n : ℕ) (to from new : List ℕ) → length to ≡ length from → length from ≡ n → new ≡ take n from → new ++ drop n to ≡ from
front_is_whole n to from new same long new_is =
    ap (λ (l : List ℕ). l ++ drop n to) (new_is ∙ take_all n from (omega (arith, long)))
    ∙ ap (λ (l : List ℕ). from ++ l) (drop_all n to (omega (arith, same, long)))
    ∙ append-nil from
