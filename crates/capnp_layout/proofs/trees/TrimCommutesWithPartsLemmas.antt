-- A front, a rest or narrowed sections of trees, trimmed, are that part of the trimmed trees. Without the nulls or
-- zeros at their end, trees or words are a front of them.
use Rattle.std.proofs.lemmas.List.{take-take}
use Rattle.std.proofs.Common.{◌≡◌, ℕ, zero, suc, ◌+◌, ◌≤◌, Bool, true, false, List, [], ◌∷◌, length, take, drop, refl, sym}
use Rattle.std.proofs.Common.{◌∙◌, ap, arith}
use Rattle.capnp_layout.specs.Prelude.{words_from, Form, null, struct, numbers, pointers, structs, Trees, none, tree, count, first, following, before, keep_word, cut_zeros, keep_tree, cut_nulls, narrowed, trim_form, trim_children, trim}
use Rattle.capnp_layout.specs.Tree.{is_null}

-- trimming, chunk by chunk
pub trim_first : (n : ℕ) (t : Trees) → trim (first n t) ≡ first n (trim t)
trim_first zero t = refl
trim_first (suc n) none = refl
trim_first (suc n) (tree form children rest) = ap (λ (r : Trees). tree (trim_form form (trim children)) (trim_children form (trim children)) r) (trim_first n rest)

pub trim_after : (n : ℕ) (t : Trees) → trim (following n t) ≡ following n (trim t)
trim_after zero t = refl
trim_after (suc n) none = refl
trim_after (suc n) (tree form children rest) = trim_after n rest

pub trim_before : (a b : Trees) → trim (before a b) ≡ before (trim a) (trim b)
trim_before none b = refl
trim_before (tree form children rest) b = ap (λ (r : Trees). tree (trim_form form (trim children)) (trim_children form (trim children)) r) (trim_before rest b)

pub trim_narrowed : (q p : ℕ) (elements : List (List ℕ)) (t : Trees) → trim (narrowed q p elements t) ≡ narrowed q p elements (trim t)
trim_narrowed q p [] t = refl
trim_narrowed q p (element ∷ elements) t =
    let one : trim (first q (first p t)) ≡ first q (first p (trim t)) = trim_first q (first p t) ∙ ap (first q) (trim_first p t) in
    let two : trim (narrowed q p elements (following p t)) ≡ narrowed q p elements (following p (trim t)) = trim_narrowed q p elements (following p t) ∙ ap (narrowed q p elements) (trim_after p t) in
    rw (trim_before (first q (first p t)) (narrowed q p elements (following p t)), one, two) refl

first_keep : (rest whole : Trees) (form : Form) (children : Trees) → first (count rest) whole ≡ rest → first (count (keep_tree rest form children)) (tree form children whole) ≡ keep_tree rest form children
first_keep (tree f h r) whole form children e =
    let more : count r + 1 + 1 ≡ suc (count r + 1) = omega arith in
    ap (λ (n : ℕ). first n (tree form children whole)) more ∙ ap (λ (t : Trees). tree form children t) e
first_keep none whole null children e = refl
first_keep none whole (struct words) children e = ap (λ (t : Trees). tree (struct words) children t) e
first_keep none whole (numbers c values) children e = ap (λ (t : Trees). tree (numbers c values) children t) e
first_keep none whole pointers children e = ap (λ (t : Trees). tree pointers children t) e
first_keep none whole (structs d p elements) children e = ap (λ (t : Trees). tree (structs d p elements) children t) e

-- what is cut is a front
pub first_cut : (t : Trees) → first (count (cut_nulls t)) t ≡ cut_nulls t
first_cut none = refl
first_cut (tree form children rest) = first_keep (cut_nulls rest) rest form children (first_cut rest)

-- trimming leaves null what is null, and nothing else
abbrev kept_count : ℕ → Bool → ℕ
kept_count (suc n) b = suc (suc n)
kept_count zero true = 0
kept_count zero false = 1

count_keep : (rest : Trees) (form : Form) (children : Trees) → count (keep_tree rest form children) ≡ kept_count (count rest) (is_null form)
count_keep none null children = refl
count_keep none (struct words) children = refl
count_keep none (numbers c values) children = refl
count_keep none pointers children = refl
count_keep none (structs d p elements) children = refl
count_keep (tree f h r) form children =
    let more : count r + 1 ≡ suc (count r) = omega arith in
    let two : count r + 1 + 1 ≡ suc (suc (count r)) = omega arith in
    rw (more) (omega arith)

pub null_trimmed : (form : Form) (children : Trees) → is_null (trim_form form children) ≡ is_null form
null_trimmed null children = refl
null_trimmed (struct words) children = refl
null_trimmed (numbers c values) children = refl
null_trimmed pointers children = refl
null_trimmed (structs d p elements) children = refl

pub count_cut_trim : (t : Trees) → count (cut_nulls (trim t)) ≡ count (cut_nulls t)
count_cut_trim none = refl
count_cut_trim (tree form children rest) =
    count_keep (cut_nulls (trim rest)) (trim_form form (trim children)) (trim_children form (trim children))
    ∙ ap (λ (n : ℕ). kept_count n (is_null (trim_form form (trim children)))) (count_cut_trim rest)
    ∙ ap (λ (b : Bool). kept_count (count (cut_nulls rest)) b) (null_trimmed form (trim children))
    ∙ sym (count_keep (cut_nulls rest) form children)

-- words without zeros at the end are a front
front_keep : (rest whole : List ℕ) (w : ℕ) → take (length rest) whole ≡ rest → take (length (keep_word rest w)) (w ∷ whole) ≡ keep_word rest w
front_keep (x ∷ rest) whole w e = ap (λ (l : List ℕ). w ∷ l) e
front_keep [] whole zero e = refl
front_keep [] whole (suc n) e = ap (λ (l : List ℕ). suc n ∷ l) e

pub cut_front : (xs : List ℕ) → take (length (cut_zeros xs)) xs ≡ cut_zeros xs
cut_front [] = refl
cut_front (x ∷ xs) = front_keep (cut_zeros xs) xs x (cut_front xs)

pub cut_words : (words : List ℕ) (start d e : ℕ) → e ≡ length (cut_zeros (words_from words start d)) → e ≤ d → cut_zeros (words_from words start d) ≡ words_from words start e
cut_words words start d e is le =
    sym (cut_front (words_from words start d)) ∙ ap (λ (n : ℕ). take n (words_from words start d)) (sym is) ∙ take-take e d (drop start words) le
