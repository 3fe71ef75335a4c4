-- How many bytes the packed encoding of a number of words has at most.
use Rattle.std.proofs.Common.{◌≡◌, ℕ, zero, suc, ◌+◌, ◌*◌, ◌/◌, ◌<◌, ◌≤◌, inl, inr, List, [], ◌∷◌, length, replicate, refl, sym, ap, ◌∙◌, arith, length-append}
use Rattle.std.proofs.lemmas.Bool.{cases_lt}
use Rattle.std.specs.List.{concat, AllByRecursion}
use Rattle.std.proofs.lemmas.List.{length-replicate}
use Rattle.capnp_pack.specs.Prelude.{Group, tagged, zeros, literal, IsGroup, zero_word, zero_bytes, group_encoding, marked, encoding_of, words_of_groups, Packs, IsLongest, AreLongest, IfFirst, tag_of, nonzero, length-words}
use Rattle.capnp_pack.proofs.words.NonzeroByteTagLemmas.{zeros_cons, zeros_suc, nonzero_suc, tag_once, tag_whole, top, top_word, marked_tag}
use Rattle.capnp_pack.proofs.packing.WordsPackUniquelyAndUnpackLemmas.{words_whole}

pub nonzero_len : (w : List ℕ) → length (nonzero w) + zero_bytes w ≡ length w
nonzero_len [] = refl
nonzero_len (zero ∷ w) = omega (arith, zeros_cons 0 w, nonzero_len w)
nonzero_len (suc b ∷ w) = omega (arith, zeros_suc b w, ap length (nonzero_suc b w), nonzero_len w)

-- a tagged group has a byte for each byte of its word that isn't zero, and not all are
tagged_len : (t : ℕ) (w : List ℕ) → IsGroup (tagged t w) → IsLongest (tagged t w) [] → (length (marked t w) + zero_bytes w ≡ 8) × (length (marked t w) ≤ 7)
tagged_len t w is longest =
    let high : top w ≡ 256 = top_word w is.2 in
    let low : t < 255 = is.1 in
    let mine : tag_of w ≡ t = tag_once w t (omega arith) is.3 longest in
    let long : length (marked t w) ≡ length (nonzero w) = ap (λ k. length (marked k w)) (sym mine) ∙ ap length (marked_tag w) in
    let all : length (nonzero w) + zero_bytes w ≡ 8 = nonzero_len w ∙ is.2 in
    let some : 1 ≤ zero_bytes w = positive (zero_bytes w) (λ none. let full : tag_of w + 1 ≡ top w = tag_whole w none in omega arith) in
    (omega arith, omega arith)
  where
    positive : (n : ℕ) → (n ≡ 0 → ⊥) → 1 ≤ n
    positive zero some = absurd (some refl)
    positive (suc n) some = omega arith

-- for n words, twice the length is at most 17 * n + 3, and at most 17 * n where the first word has
-- two zero bytes
bound : (gs : List Group) → AllByRecursion IsGroup gs → AreLongest gs → (2 * length (encoding_of gs) ≤ 17 * length (words_of_groups gs) + 3) ×
    (IfFirst (words_of_groups gs) (λ w. 2 ≤ zero_bytes w) → 2 * length (encoding_of gs) ≤ 17 * length (words_of_groups gs))
bound [] each longest = (omega arith, λ first. omega arith)
bound (tagged t w ∷ gs) each longest =
    let more = bound gs each.1 longest.1 in
    let long = tagged_len t w each.0 longest.0 in
    let encoding : length (encoding_of (tagged t w ∷ gs)) ≡ 1 + length (marked t w) + length (encoding_of gs) = length-append (tag_and t w) (encoding_of gs) ∙ omega arith in
    let words : length (words_of_groups (tagged t w ∷ gs)) ≡ 1 + length (words_of_groups gs) = omega arith in
    (omega (arith, more.0, long.1), λ first. let two : 2 ≤ zero_bytes w = first in omega (arith, more.0, long.0))
  where
    tag_and : ℕ → List ℕ → List ℕ
    tag_and t w = group_encoding (tagged t w)
bound (zeros k ∷ gs) each longest =
    let more = bound gs each.1 longest.1 in
    let encoding : length (encoding_of (zeros k ∷ gs)) ≡ 2 + length (encoding_of gs) = omega arith in
    let words : length (words_of_groups (zeros k ∷ gs)) ≡ 1 + k + length (words_of_groups gs) =
    length-append (zero_word ∷ replicate k zero_word) (words_of_groups gs) ∙ omega (arith, length-replicate k zero_word) in
    (omega (arith, more.0), λ first. omega (arith, more.0))
bound (literal w fs ∷ gs) each longest =
    let more = bound gs each.1 longest.1 in
    let word : length w ≡ 8 = each.0.0 in
    let further : length (concat fs) ≡ 8 * length fs = length-words fs each.0.1 in
    let few : length fs < 256 = each.0.2 in
    let none : zero_bytes w ≡ 0 = longest.0.0 in
    let encoding : length (encoding_of (literal w fs ∷ gs)) ≡ 10 + 8 * length fs + length (encoding_of gs) =
    length-append (group_encoding (literal w fs)) (encoding_of gs) ∙ omega (arith, length-append (255 ∷ w) (length fs ∷ concat fs)) in
    let words : length (words_of_groups (literal w fs ∷ gs)) ≡ 1 + length fs + length (words_of_groups gs) = length-append (w ∷ fs) (words_of_groups gs) ∙ omega arith in (
      elim (cases_lt (length fs) 255) [
        | inl less ↦ let left : 2 * length (encoding_of gs) ≤ 17 * length (words_of_groups gs) = more.1 (longest.0.2 less) in omega arith
        | inr full ↦ omega (arith, more.0)
      ],
      λ first. let two : 2 ≤ zero_bytes w = first in absurd (omega arith),
    )

pub Packs-short : (bytes encoding : List ℕ) (n : ℕ) → Packs bytes encoding → length bytes ≡ 8 * n → 0 < n → length encoding ≤ 8 * n + (n + 3) / 2
Packs-short bytes encoding n p count some =
    let long : length bytes ≡ 8 * length (words_of_groups p.groups) = ap length p.unpacked ∙ length-words (words_of_groups p.groups) (words_whole p.groups p.each) in
    let most = bound p.groups p.each p.longest in
    omega (arith, most.0, ap length p.spelled)
