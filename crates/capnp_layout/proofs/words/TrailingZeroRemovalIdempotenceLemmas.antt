-- Words without the zeros at their end: a second removal changes nothing. Elements of a list, cut to the data
-- words that they need.
use Rattle.std.proofs.lemmas.List.Elements.{All-nil, All-cons, All-head, All-tail}
use Rattle.std.proofs.lemmas.List.{take-take}
use Rattle.std.proofs.Common.{◌≡◌, ℕ, zero, suc, ◌≤◌, List, [], ◌∷◌, length, map, take, refl, sym, ◌∙◌, ap, arith}
use Rattle.std.specs.Prelude.{All}
use Rattle.capnp_layout.specs.Prelude.{keep_word, cut_zeros, least_data}
use Rattle.capnp_layout.proofs.pointers.LayoutSlotPointersAndPlacesLemmas.{AllOf}

cut-keep_word : (rest : List ℕ) (word : ℕ) → cut_zeros (keep_word rest word) ≡ keep_word (cut_zeros rest) word
cut-keep_word (x ∷ rest) word = refl
cut-keep_word [] zero = refl
cut-keep_word [] (suc n) = refl

pub cut_zeros-cut_zeros : (words : List ℕ) → cut_zeros (cut_zeros words) ≡ cut_zeros words
cut_zeros-cut_zeros [] = refl
cut_zeros-cut_zeros (word ∷ words) = cut-keep_word (cut_zeros words) word ∙ ap (λ (l : List ℕ). keep_word l word) (cut_zeros-cut_zeros words)

pub length-keep_word : (rest : List ℕ) (word : ℕ) → length (keep_word rest word) ≤ suc (length rest)
length-keep_word (x ∷ rest) word = omega arith
length-keep_word [] zero = omega arith
length-keep_word [] (suc n) = omega arith

pub length-cut_zeros : (words : List ℕ) → length (cut_zeros words) ≤ length words
length-cut_zeros [] = omega arith
length-cut_zeros (word ∷ words) = omega (arith, length-keep_word (cut_zeros words) word, length-cut_zeros words)

keep_word_within : (rest : List ℕ) (word n : ℕ) → length (keep_word rest word) ≤ suc n → length rest ≤ n
keep_word_within (x ∷ rest) word n le = omega arith
keep_word_within [] word n le = omega arith

keep_word_some : (rest : List ℕ) (word : ℕ) → length (keep_word rest word) ≤ 0 → keep_word rest word ≡ []
keep_word_some (x ∷ rest) word le = absurd (omega arith)
keep_word_some [] zero le = refl
keep_word_some [] (suc n) le = absurd (omega arith)

-- words that need no more than n are the same after n of them
pub cut_zeros-take : (n : ℕ) (words : List ℕ) → length (cut_zeros words) ≤ n → cut_zeros (take n words) ≡ cut_zeros words
cut_zeros-take zero [] le = refl
cut_zeros-take (suc n) [] le = refl
cut_zeros-take zero (word ∷ words) le = sym (keep_word_some (cut_zeros words) word le)
cut_zeros-take (suc n) (word ∷ words) le = ap (λ (l : List ℕ). keep_word l word) (cut_zeros-take n words (keep_word_within (cut_zeros words) word n le))

all_keep_word : (P : ℕ → Type 0) (rest : List ℕ) (word : ℕ) → P word → All P rest → All P (keep_word rest word)
all_keep_word P (x ∷ rest) word here all = All-cons P word (x ∷ rest) here all
all_keep_word P [] zero here all = All-nil P
all_keep_word P [] (suc n) here all = All-cons P (suc n) [] here (All-nil P)

pub all_cut : (P : ℕ → Type 0) (words : List ℕ) → All P words → All P (cut_zeros words)
all_cut P [] all = all
all_cut P (word ∷ words) all = all_keep_word P (cut_zeros words) word (All-head P word words all) (all_cut P words (All-tail P word words all))

pub least_data_within : (d : ℕ) (elements : List (List ℕ)) → AllOf d elements → least_data elements ≤ d
least_data_within d [] even = omega arith
least_data_within d (element ∷ elements) even =
    let wide : length element ≡ d = All-head (λ r. length r ≡ d) element elements even in
    let rest = least_data_within d elements (All-tail (λ r. length r ≡ d) element elements even) in
    omega (arith, length-cut_zeros element)

pub least_data-take : (n : ℕ) (elements : List (List ℕ)) → least_data elements ≤ n → least_data (map (take n) elements) ≡ least_data elements
least_data-take n [] le = refl
least_data-take n (element ∷ elements) le =
    let first : cut_zeros (take n element) ≡ cut_zeros element = cut_zeros-take n element (omega arith) in
    let rest : least_data (map (take n) elements) ≡ least_data elements = least_data-take n elements (omega arith) in
    cc

pub take-elements : (n : ℕ) (elements : List (List ℕ)) → map (take n) (map (take n) elements) ≡ map (take n) elements
take-elements n [] = refl
take-elements n (element ∷ elements) =
    let first : take n (take n element) ≡ take n element = take-take n n element (omega arith) in
    let rest : map (take n) (map (take n) elements) ≡ map (take n) elements = take-elements n elements in
    cc
