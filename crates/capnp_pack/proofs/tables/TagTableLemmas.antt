-- The entries of a table that has one for each tag.
use Rattle.std.proofs.Common.{◌≡◌, ℕ, zero, suc, ◌+◌, ◌<◌, List, [], ◌∷◌, get_or, ap, ◌∙◌, arith}

abbrev pub entries : (ℕ → List ℕ) → ℕ → ℕ → List (List ℕ)
entries entry tag zero = []
entries entry tag (suc n) = entry tag ∷ entries entry (suc tag) n

get_or-entries : (entry : ℕ → List ℕ) (n first i : ℕ) (none : List ℕ) → i < n → get_or (entries entry first n) i none ≡ entry (first + i)
get_or-entries entry zero first i none low = absurd (omega arith)
get_or-entries entry (suc n) first zero none low = let same : first ≡ first + 0 = omega arith in ap entry same
get_or-entries entry (suc n) first (suc i) none low =
    let same : suc first + i ≡ first + suc i = omega arith in
    get_or-entries entry n (suc first) i none (omega arith) ∙ ap entry same

pub entry_at : (entry : ℕ → List ℕ) (table : List (List ℕ)) (tag : ℕ) (none : List ℕ) → table ≡ entries entry 0 256 → tag < 256 → get_or table tag none ≡ entry tag
entry_at entry table tag none is low =
    let same : 0 + tag ≡ tag = omega arith in
    ap (λ t. get_or t tag none) is ∙ get_or-entries entry 256 0 tag none low ∙ ap entry same
