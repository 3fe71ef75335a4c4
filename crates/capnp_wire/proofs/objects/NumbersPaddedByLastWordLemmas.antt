-- Whether a list of numbers is padded with zero bits is seen from its last word.
use Rattle.std.proofs.Common.{◌≡◌, ℕ, ◌+◌, ◌*◌, ◌/◌, ◌%◌, ◌^◌, ◌<◌, ◌≤◌, List, length, slice_index_or, refl, sym, ◌∙◌, ap, subst, arith}
use Rattle.std.specs.Prelude.{All, ◌↔◌}
use Rattle.capnp_layout.specs.Prelude.{digits, number_of, words_from, width, words_for, numbers, elements}
use Rattle.capnp_wire.specs.Prelude.{Padded}
use Rattle.capnp_layout.proofs.words.DigitsToNumberAndBackLemmas.{length-digits}
use Rattle.capnp_layout.proofs.objects.ListPaddingTestLemmas.{padded_small, part_small, small_padded, whole_small}

-- so a list is padded
padded_as : (words : List ℕ) (s code n k : ℕ) → k ≡ words_for n (width code)
    → (words_from words s k ≡ digits (2 ^ 64) k (number_of (2 ^ width code) (digits (2 ^ width code) n (number_of (2 ^ 64) (words_from words s k)))))
    ↔ Padded words s (numbers code (elements words s code n))
padded_as words s code n k is =
    let long : length (elements words s code n) ≡ n = length-digits (2 ^ width code) n (number_of (2 ^ 64) (words_from words s (words_for n (width code)))) in
    let same : k ≡ words_for (length (elements words s code n)) (width code) = is ∙ ap (λ (j : ℕ). words_for j (width code)) (sym long) in
    let at : ℕ → ℕ → Type 0 = λ a b. words_from words s a ≡ digits (2 ^ 64) a (number_of (2 ^ width code) (digits (2 ^ width code) n (number_of (2 ^ 64) (words_from words s b)))) in (
      λ t. subst (λ (a : ℕ). at a (words_for n (width code))) same (subst (λ (b : ℕ). at k b) is t),
      λ t. subst (λ (b : ℕ). at k b) (sym is) (subst (λ (a : ℕ). at a (words_for n (width code))) (sym same) t),
    )

pub whole_is_padded : (words : List ℕ) (s code n : ℕ) → All (λ x. x < 2 ^ 64) words → s + words_for n (width code) ≤ length words → n * width code % 64 ≡ 0
    → Padded words s (numbers code (elements words s code n))
whole_is_padded words s code n all room even =
    let bits : n * width code ≡ 64 * words_for n (width code) = omega arith in
    (padded_as words s code n (words_for n (width code)) refl).0
    (padded_small words s (width code) n (words_for n (width code)) all refl room (whole_small words s (width code) n (words_for n (width code)) all room bits))

pub part_is_padded : (words : List ℕ) (s code n : ℕ) → All (λ x. x < 2 ^ 64) words → s + words_for n (width code) ≤ length words → 0 < n * width code % 64
    → (slice_index_or words (s + n * width code / 64) 0 < 2 ^ (n * width code % 64)) ↔ Padded words s (numbers code (elements words s code n))
part_is_padded words s code n all room some =
    let q = n * width code / 64 in
    let is : n * width code / 64 + 1 ≡ words_for n (width code) = omega arith in
    let e = part_small words s (width code) n (n * width code / 64) (n * width code % 64) all (omega arith) (omega arith) in
    let p = padded_as words s code n (n * width code / 64 + 1) is in (
      λ small. p.0 (padded_small words s (width code) n (n * width code / 64 + 1) all is (omega arith) (e.0 small)),
      λ padded. e.1 (small_padded words s (width code) n (n * width code / 64 + 1) is (p.1 padded)),
    )
