-- Which group a packer makes of a word and the words after it, by the word's tag: there is exactly one.
use Rattle.std.proofs.Common.{◌≡◌, ℕ, zero, suc, ◌+◌, ◌<◌, ◌≤◌, ◌⊎◌, inl, inr, List, [], ◌∷◌, length, take, drop, replicate, refl, sym, ap, ◌∙◌, subst, arith}
use Rattle.std.proofs.lemmas.Bool.{cases_lt}
use Rattle.std.specs.List.{AllByRecursion}
use Rattle.std.proofs.lemmas.List.{length-take-le, length-replicate}
use Rattle.capnp_pack.specs.Prelude.{Group, tagged, zeros, literal, IsWord, zero_word, zero_bytes, IsZero, HasFewZeros, tag_of, IsRun, IsGroupOf}
use Rattle.capnp_pack.proofs.words.NonzeroByteTagLemmas.{ArePositive, tag_zero, tag_full, tag_whole, tag_once, tag_below, top, top_word, marked_tag, unmarked_tag, nonzero_marked}
use Rattle.capnp_pack.proofs.words.EachElementLemmas.{AllByRecursion-take}
use Rattle.capnp_pack.proofs.words.UniqueRunLengthLemmas.{IsRun-once, IsRun-some, IfFirst-weaker, same_zeros, all_zeros, few_or_not, zero_or_not}

pub IsGroupOf-zeros : (w : List ℕ) (os : List (List ℕ)) (n : ℕ) → IsWord w → tag_of w ≡ 0 → IsRun IsZero os n → IsGroupOf w os n (zeros n)
IsGroupOf-zeros w os n is none run =
    let first : w ≡ zero_word = tag_zero w none ∙ ap (λ k. replicate k 0) is in
    let others : take n os ≡ replicate n zero_word = same_zeros (take n os) run.each ∙ ap (λ k. replicate k zero_word) (length-take-le n os run.within) in
    record {
      within = run.within;
      is = omega (arith, run.most);
      words = sym (ap (λ k. k ∷ take n os) first ∙ ap (λ l. zero_word ∷ l) others);
      longest = run.ends;
    }

pub IsGroupOf-literal : (w : List ℕ) (os : List (List ℕ)) (n : ℕ) → IsWord w → AllByRecursion IsWord os → tag_of w ≡ 255 → IsRun HasFewZeros os n → IsGroupOf w os n (literal w (take n os))
IsGroupOf-literal w os n is all full run =
    let long : length (take n os) ≡ n = length-take-le n os run.within in
    record {
      within = run.within;
      is = (is, AllByRecursion-take IsWord n os all, omega (arith, run.most));
      words = refl;
      longest = (tag_full w (omega (arith, top_word w is)), run.each, λ low. IfFirst-weaker (drop n os) (λ v few. many v few) (run.ends (omega arith)));
    }
  where
    many : (v : List ℕ) → (zero_bytes v ≤ 1 → ⊥) → 2 ≤ zero_bytes v
    many v few = omega arith

pub IsGroupOf-tagged : (w : List ℕ) (os : List (List ℕ)) → IsWord w → 0 < tag_of w → tag_of w < 255 → IsGroupOf w os 0 (tagged (tag_of w) w)
IsGroupOf-tagged w os is some low = record {
  within = omega arith;
  is = (some, low, is, unmarked_tag w);
  words = refl;
  longest = subst ArePositive (sym (marked_tag w)) (nonzero_marked w);
}

kinds : (t : ℕ) → t < 256 → (t ≡ 0) ⊎ ((t ≡ 255) ⊎ ((0 < t) × (t < 255)))
kinds zero low = inl refl
kinds (suc t) low = elim (cases_lt (suc t) 255) [ inl less ↦ inr (inr (omega arith, less)) | inr full ↦ inr (inl (omega arith)) ]

pub IsGroupOf-some : (w : List ℕ) (os : List (List ℕ)) → IsWord w → AllByRecursion IsWord os → (n : ℕ) × ((g : Group) × IsGroupOf w os n g)
IsGroupOf-some w os is all = elim (kinds (tag_of w) (omega (arith, tag_below w, top_word w is))) [
  | inl none ↦ let run : (n : ℕ) × IsRun IsZero os n = IsRun-some IsZero zero_or_not os in (run.0, (zeros run.0, IsGroupOf-zeros w os run.0 is none run.1))
  | inr other ↦ elim other [
    | inl full ↦ let run : (n : ℕ) × IsRun HasFewZeros os n = IsRun-some HasFewZeros few_or_not os in (run.0, (literal w (take run.0 os), IsGroupOf-literal w os run.0 is all full run.1))
    | inr part ↦ (0, (tagged (tag_of w) w, IsGroupOf-tagged w os is part.0 part.1))
  ]
]

-- the tag of a group's encoding
abbrev group_tag : Group → ℕ
group_tag (tagged t w) = t
group_tag (zeros more) = 0
group_tag (literal w further) = 255

zero_tag : tag_of zero_word ≡ 0
zero_tag = refl

pub first_is : (a b : List ℕ) (xs ys : List (List ℕ)) → a ∷ xs ≡ b ∷ ys → (a ≡ b) × (xs ≡ ys)
first_is a b xs ys e = (cc, cc)

tag_is : (w : List ℕ) (os : List (List ℕ)) (n : ℕ) (g : Group) → IsGroupOf w os n g → group_tag g ≡ tag_of w
tag_is w os n (tagged t v) p =
    let parts = first_is v w [] (take n os) p.words in
    let low : t < top v = omega (arith, top_word v p.is.2, p.is.1) in
    sym (tag_once v t low p.is.3 p.longest) ∙ ap tag_of parts.0
tag_is w os n (zeros more) p = let parts = first_is zero_word w (replicate more zero_word) (take n os) p.words in ap tag_of parts.0
tag_is w os n (literal v further) p =
    let parts = first_is v w further (take n os) p.words in
    let full : tag_of v + 1 ≡ top v = tag_whole v p.longest.0 in
    let long : top v ≡ 256 = top_word v p.is.0 in
    let all : 255 ≡ tag_of v = omega arith in
    all ∙ ap tag_of parts.0

zeros_run : (w : List ℕ) (os : List (List ℕ)) (n k : ℕ) → IsGroupOf w os n (zeros k) → (k ≡ n) × IsRun IsZero os n
zeros_run w os n k p =
    let parts = first_is zero_word w (replicate k zero_word) (take n os) p.words in
    let same : k ≡ n = sym (length-replicate k zero_word) ∙ ap length parts.1 ∙ length-take-le n os p.within in
    let low : k < 256 = p.is in (
      same,
      record {
        most = omega arith;
        within = p.within;
        each = subst (AllByRecursion IsZero) parts.1 (all_zeros k);
        ends = λ less. p.longest (omega arith);
      },
    )

literal_run : (w v : List ℕ) (os further : List (List ℕ)) (n : ℕ) → IsGroupOf w os n (literal v further) → (v ≡ w) × (further ≡ take n os) × IsRun HasFewZeros os n
literal_run w v os further n p =
    let parts = first_is v w further (take n os) p.words in
    let long : length further ≡ n = ap length parts.1 ∙ length-take-le n os p.within in
    let low : length further < 256 = p.is.2 in (
      parts.0,
      parts.1,
      record {
        most = omega arith;
        within = p.within;
        each = subst (AllByRecursion HasFewZeros) parts.1 p.longest.1;
        ends = λ less. IfFirst-weaker (drop n os) (λ u many few. absurd (omega arith)) (p.longest.2 (omega arith));
      },
    )

tagged_word : (w v : List ℕ) (os : List (List ℕ)) (n t : ℕ) → IsGroupOf w os n (tagged t v) → (v ≡ w) × (n ≡ 0)
tagged_word w v os n t p =
    let parts = first_is v w [] (take n os) p.words in
    (parts.0, sym (length-take-le n os p.within) ∙ sym (ap length parts.1))

pub IsGroupOf-once : (w : List ℕ) (os : List (List ℕ)) (m n : ℕ) (g h : Group) → IsGroupOf w os m g → IsGroupOf w os n h → (m ≡ n) × (g ≡ h)
IsGroupOf-once w os m n g h p q = cases g h p q (tag_is w os m g p ∙ sym (tag_is w os n h q))
  where
    cases : (g h : Group) → IsGroupOf w os m g → IsGroupOf w os n h → group_tag g ≡ group_tag h → (m ≡ n) × (g ≡ h)
    cases (tagged t v) (tagged u x) p q e = let a = tagged_word w v os m t p in let b = tagged_word w x os n u q in (a.1 ∙ sym b.1, ap (λ k. tagged k v) e ∙ ap (λ l. tagged u l) (a.0 ∙ sym b.0))
    cases (zeros j) (zeros k) p q e = let a = zeros_run w os m j p in let b = zeros_run w os n k q in let same : m ≡ n = IsRun-once IsZero os m n a.1 b.1 in (same, ap zeros (a.0 ∙ same ∙ sym b.0))
    cases (literal v fs) (literal x hs) p q e =
        let a = literal_run w v os fs m p in
        let b = literal_run w x os hs n q in
        let same : m ≡ n = IsRun-once HasFewZeros os m n a.2 b.2 in
        (same, ap (λ k. literal k fs) (a.0 ∙ sym b.0) ∙ ap (λ l. literal x l) (a.1 ∙ ap (λ k. take k os) same ∙ sym b.1))
    cases (tagged t v) (zeros k) p q e = let some : 0 < t = p.is.0 in absurd (omega arith)
    cases (tagged t v) (literal x hs) p q e = let low : t < 255 = p.is.1 in absurd (omega arith)
    cases (zeros j) (tagged u x) p q e = let some : 0 < u = q.is.0 in absurd (omega arith)
    cases (literal v fs) (tagged u x) p q e = let low : u < 255 = q.is.1 in absurd (omega arith)
    cases (zeros j) (literal x hs) p q e = absurd (omega arith)
    cases (literal v fs) (zeros k) p q e = absurd (omega arith)
