-- A list of numbers is one tree, as a value, and its measure is the words of its elements, or it has too many of
-- these.
use Rattle.std.proofs.Common.{◌≡◌, ℕ, ◌-◌, ◌<◌, ◌≤◌, ◌^◌, Bool, min, List, length, Result, Ok, Err, MatchResult}
use Rattle.std.proofs.Common.{inl, refl, sym, ◌∙◌, ap, arith}
use Rattle.capnp_frame.specs.declared.error.Error.{Error}
use Rattle.capnp_frame.specs.declared.error.ErrorKind.TheVariants.{AllocationTooLarge}
use Rattle.capnp_layout.specs.Prelude.{number_of, words_from, code_of, width, words_for, numbers, none, tree, total_words, elements as numerals, output}
use Rattle.capnp_wire.specs.Prelude.{HasWords, WordsError, IsNumbersTree, TooManyNumbers}
use Rattle.capnp_layout.specs.declared.element_size.ElementSize.{ElementSize}
use Rattle.capnp_layout.specs.declared.element_size.ElementSize.TheVariants.{Void, Bit, Byte, TwoBytes, FourBytes, EightBytes}
use Rattle.std.proofs.lemmas.Nat.{pow_pos}
use Rattle.capnp_layout.proofs.words.DigitsToNumberAndBackLemmas.{length-digits}
use Rattle.capnp_layout.proofs.trees.ReadTreeSizesAndWordsBoundedLemmas.{digits_below}
use Rattle.capnp_wire.proofs.layouts.NullAndNumbersWrittenLemmas.{numbers_total}
use Rattle.capnp_wire.proofs.views.UniqueValueTreeAndMeasureLemmas.{IsOne}

-- a list of numbers is one tree
pub one_of_numbers : (code : ℕ) (values : List ℕ) → IsOne (IsNumbersTree code values) (TooManyNumbers code values)
one_of_numbers code values = record {
  same_tree = λ a b x y. x.1 ∙ sym y.1;
  same_error = λ a b x y. x.1 ∙ sym y.1;
  apart = λ kind trees x t. omega (arith, x.0, t.0);
}

-- its words
few_words : (size : ElementSize) (n : ℕ) → n < 2 ^ 29 → words_for n (width (code_of size)) < 2 ^ 29
few_words Void n few = omega arith
few_words Bit n few = omega arith
few_words Byte n few = omega arith
few_words TwoBytes n few = omega arith
few_words FourBytes n few = omega arith
few_words EightBytes n few = omega arith

code_known : (size : ElementSize) → code_of size < 6
code_known Void = omega arith
code_known Bit = omega arith
code_known Byte = omega arith
code_known TwoBytes = omega arith
code_known FourBytes = omega arith
code_known EightBytes = omega arith

pub numbers_long : (words : List ℕ) (start code n : ℕ) → length (numerals words start code n) ≡ n
numbers_long words start code n = length-digits (2 ^ width code) n (number_of (2 ^ 64) (words_from words start (words_for n (width code))))

-- what is measured of it
pub numbers_measured : (size : ElementSize) (words : List ℕ) (n : ℕ) (c : Bool) (r : Result ℕ Error)
    → MatchResult r (λ number. (n < 2 ^ 29) × (number ≡ words_for n (width (code_of size))))
    (λ error. (2 ^ 29 ≤ n) × (error.kind ≡ AllocationTooLarge (min (words_for n (width (code_of size))) (2 ^ 32 - 1))))
    → let values = numerals words 0 (code_of size) n in
    MatchResult r (λ number. HasWords (IsNumbersTree (code_of size) values) c number)
    (λ error. WordsError (IsNumbersTree (code_of size) values) (TooManyNumbers (code_of size) values) c error.kind)
numbers_measured size words n c (Ok number) m =
    let code : ℕ = code_of size in
    let values : List ℕ = numerals words 0 (code_of size) n in
    let long : length values ≡ n = numbers_long words 0 code n in
    let few : length values < 2 ^ 29 = omega (arith, m.0, long) in
    let total : total_words (output c (tree (numbers code values) none none)) ≡ words_for (length values) (width code) = numbers_total c code values (tree (numbers code values) none none) refl in
    record {
      trees = tree (numbers code values) none none;
      tree_is = (few, refl);
      rooms = (
        (
          code_known size,
          few,
          refl,
          digits_below (2 ^ width code) n (number_of (2 ^ 64) (words_from words 0 (words_for n (width code)))) (pow_pos (width code)),
        ),
        tt,
        tt,
      );
      words_are = m.1 ∙ ap (λ (k : ℕ). words_for k (width code)) (sym long) ∙ sym total;
      few = omega (arith, m.1, few_words size n m.0);
    }
numbers_measured size words n c (Err error) m =
    let code : ℕ = code_of size in
    let long = numbers_long words 0 (code_of size) n in
    inl (omega (arith, m.0, long), m.1 ∙ ap (λ (k : ℕ). AllocationTooLarge (min (words_for k (width code)) (2 ^ 32 - 1))) (sym long))
