-- What holds of each tree of a sequence holds of each tree of its parts. How many trees and words the parts have.
use Rattle.std.specs.Prelude.{⊤}
use Rattle.std.proofs.Common.{◌≡◌, ℕ, zero, suc, ◌+◌, ◌*◌, ◌≤◌, List, [], ◌∷◌, length, refl, sym, ◌∙◌, ap, arith}
use Rattle.capnp_layout.specs.Prelude.{Form, null, struct, numbers, pointers, structs, Trees, none, tree, count, first, following, before, keep_tree, cut_nulls, least_pointers, narrowed, object_size, total_words}

-- what holds of each tree
abbrev pub Each : (Form → Trees → Type 0) → Trees → Type 0
Each P none = ⊤
Each P (tree form children rest) = P form children × Each P rest

each_keep : (P : Form → Trees → Type 0) (rest : Trees) (form : Form) (children : Trees) → P form children → Each P rest → Each P (keep_tree rest form children)
each_keep P (tree f h r) form children here all = (here, all)
each_keep P none null children here all = tt
each_keep P none (struct words) children here all = (here, tt)
each_keep P none (numbers c values) children here all = (here, tt)
each_keep P none pointers children here all = (here, tt)
each_keep P none (structs d p elements) children here all = (here, tt)

pub each_cut : (P : Form → Trees → Type 0) (trees : Trees) → Each P trees → Each P (cut_nulls trees)
each_cut P none all = tt
each_cut P (tree form children rest) all = each_keep P (cut_nulls rest) form children all.0 (each_cut P rest all.1)

pub each_first : (P : Form → Trees → Type 0) (n : ℕ) (trees : Trees) → Each P trees → Each P (first n trees)
each_first P zero trees all = tt
each_first P (suc n) none all = tt
each_first P (suc n) (tree form children rest) all = (all.0, each_first P n rest all.1)

pub each_after : (P : Form → Trees → Type 0) (n : ℕ) (trees : Trees) → Each P trees → Each P (following n trees)
each_after P zero trees all = all
each_after P (suc n) none all = tt
each_after P (suc n) (tree form children rest) all = each_after P n rest all.1

pub each_before : (P : Form → Trees → Type 0) (trees others : Trees) → Each P trees → Each P others → Each P (before trees others)
each_before P none others all more = more
each_before P (tree form children rest) others all more = (all.0, each_before P rest others all.1 more)

pub each_narrowed : (P : Form → Trees → Type 0) (n p : ℕ) (elements : List (List ℕ)) (children : Trees) → Each P children → Each P (narrowed n p elements children)
each_narrowed P n p [] children all = tt
each_narrowed P n p (element ∷ elements) children all =
    each_before P (first n (first p children)) (narrowed n p elements (following p children)) (each_first P n (first p children) (each_first P p children all)) (each_narrowed P n p elements (following p children)
    (each_after P p children all))

-- cut trees
cut-keep : (rest : Trees) (form : Form) (children : Trees) → cut_nulls (keep_tree rest form children) ≡ keep_tree (cut_nulls rest) form children
cut-keep (tree f h r) form children = refl
cut-keep none null children = refl
cut-keep none (struct words) children = refl
cut-keep none (numbers c values) children = refl
cut-keep none pointers children = refl
cut-keep none (structs d p elements) children = refl

pub cut_nulls-cut_nulls : (trees : Trees) → cut_nulls (cut_nulls trees) ≡ cut_nulls trees
cut_nulls-cut_nulls none = refl
cut_nulls-cut_nulls (tree form children rest) = cut-keep (cut_nulls rest) form children ∙ ap (λ (t : Trees). keep_tree t form children) (cut_nulls-cut_nulls rest)

-- how many trees are kept
pub record Kept (rest : Trees) (form : Form) (children : Trees) : Type 0 where
  pub most : count (keep_tree rest form children) ≤ count rest + 1
  least : (n : ℕ) → count (keep_tree rest form children) ≤ suc n → count rest ≤ n
  empty : count (keep_tree rest form children) ≤ 0 → keep_tree rest form children ≡ none
  no_larger : total_words (keep_tree rest form children) ≤ object_size form (count children) + total_words children + total_words rest

pub kept : (rest : Trees) (form : Form) (children : Trees) → Kept rest form children
kept (tree f h r) form children = record { most = omega arith; least = λ n le. omega arith; empty = λ le. absurd (omega arith); no_larger = omega arith }
kept none null children = record { most = omega arith; least = λ n le. omega arith; empty = λ le. refl; no_larger = omega arith }
kept none (struct words) children = record { most = omega arith; least = λ n le. omega arith; empty = λ le. absurd (omega arith); no_larger = omega arith }
kept none (numbers c values) children = record { most = omega arith; least = λ n le. omega arith; empty = λ le. absurd (omega arith); no_larger = omega arith }
kept none pointers children = record { most = omega arith; least = λ n le. omega arith; empty = λ le. absurd (omega arith); no_larger = omega arith }
kept none (structs d p elements) children = record { most = omega arith; least = λ n le. omega arith; empty = λ le. absurd (omega arith); no_larger = omega arith }

pub count-cut : (trees : Trees) → count (cut_nulls trees) ≤ count trees
count-cut none = omega arith
count-cut (tree form children rest) = let k = kept (cut_nulls rest) form children in omega (arith, k.most, count-cut rest)

pub cut-first : (n : ℕ) (trees : Trees) → count (cut_nulls trees) ≤ n → cut_nulls (first n trees) ≡ cut_nulls trees
cut-first zero none le = refl
cut-first (suc n) none le = refl
cut-first zero (tree form children rest) le = let k = kept (cut_nulls rest) form children in sym (k.empty le)
cut-first (suc n) (tree form children rest) le =
    let k = kept (cut_nulls rest) form children in
    ap (λ (t : Trees). keep_tree t form children) (cut-first n rest (k.least n le))

pub total-cut : (trees : Trees) → total_words (cut_nulls trees) ≤ total_words trees
total-cut none = omega arith
total-cut (tree form children rest) = let k = kept (cut_nulls rest) form children in omega (arith, k.no_larger, total-cut rest)

pub count-first : (n : ℕ) (trees : Trees) → n ≤ count trees → count (first n trees) ≡ n
count-first zero trees le = refl
count-first (suc n) none le = absurd (omega arith)
count-first (suc n) (tree form children rest) le = omega (arith, count-first n rest (omega arith))

pub count-first_most : (n : ℕ) (trees : Trees) → count (first n trees) ≤ n
count-first_most zero trees = omega arith
count-first_most (suc n) none = omega arith
count-first_most (suc n) (tree form children rest) = omega (arith, count-first_most n rest)

pub count-following : (n : ℕ) (trees : Trees) → n ≤ count trees → count (following n trees) + n ≡ count trees
count-following zero trees le = omega arith
count-following (suc n) none le = absurd (omega arith)
count-following (suc n) (tree form children rest) le = omega (arith, count-following n rest (omega arith))

pub count-before : (trees others : Trees) → count (before trees others) ≡ count trees + count others
count-before none others = omega arith
count-before (tree form children rest) others = omega (arith, count-before rest others)

pub total-chunks : (n : ℕ) (trees : Trees) → total_words (first n trees) + total_words (following n trees) ≡ total_words trees
total-chunks zero trees = omega arith
total-chunks (suc n) none = refl
total-chunks (suc n) (tree form children rest) = omega (arith, total-chunks n rest)

pub total-before : (trees others : Trees) → total_words (before trees others) ≡ total_words trees + total_words others
total-before none others = omega arith
total-before (tree form children rest) others = omega (arith, total-before rest others)

pub total-narrowed : (n p : ℕ) (elements : List (List ℕ)) (children : Trees) → total_words (narrowed n p elements children) ≤ total_words children
total-narrowed n p [] children = omega arith
total-narrowed n p (element ∷ elements) children =
    omega (arith, total-before (first n (first p children)) (narrowed n p elements (following p children)), total-chunks n (first p children), total-chunks p children, total-narrowed n p elements (following p children))

pub count-narrowed : (n p : ℕ) (elements : List (List ℕ)) (children : Trees) → n ≤ p → count children ≡ length elements * p → count (narrowed n p elements children) ≡ length elements * n
count-narrowed n p [] children le long = omega arith
count-narrowed n p (element ∷ elements) children le long =
    let split : suc (length elements) * p ≡ p + length elements * p = omega arith in
    let own : count (first p children) ≡ p = count-first p children (omega arith) in
    let some : count (first n (first p children)) ≡ n = count-first n (first p children) (omega arith) in
    let rest = count-narrowed n p elements (following p children) le (omega (arith, count-following p children (omega arith))) in
    omega (arith, count-before (first n (first p children)) (narrowed n p elements (following p children)))

pub least_pointers_within : (p : ℕ) (elements : List (List ℕ)) (children : Trees) → least_pointers p elements children ≤ p
least_pointers_within p [] children = omega arith
least_pointers_within p (element ∷ elements) children =
    omega (arith, count-cut (first p children), count-first_most p children, least_pointers_within p elements (following p children))

-- the first of some trees before the others
pub before_chunks : (n : ℕ) (trees : Trees) → before (first n trees) (following n trees) ≡ trees
before_chunks zero trees = refl
before_chunks (suc n) none = refl
before_chunks (suc n) (tree form children rest) = ap (λ (t : Trees). tree form children t) (before_chunks n rest)
