-- The elements of a list of numbers are of code 0 to 5, and the list has no more words than elements.
use Rattle.std.proofs.Common.{◌<◌, ◌≤◌, ◌≡◌, ℕ, subst, arith}
use Rattle.capnp_layout.specs.Prelude.{code_of, width, words_for}
use Rattle.capnp_layout.specs.declared.element_size.ElementSize.{ElementSize}
use Rattle.capnp_layout.specs.declared.element_size.ElementSize.TheVariants.{Void, Bit, Byte, TwoBytes, FourBytes, EightBytes}
use Rattle.capnp_values.proofs.number_list.words_of_list.Goals as goal

code_known : (size : ElementSize) → code_of size < 6
code_known Void = omega arith
code_known Bit = omega arith
code_known Byte = omega arith
code_known TwoBytes = omega arith
code_known FourBytes = omega arith
code_known EightBytes = omega arith

few_words : (size : ElementSize) (n : ℕ) → words_for n (width (code_of size)) ≤ n
few_words Void n = omega arith
few_words Bit n = omega arith
few_words Byte n = omega arith
few_words TwoBytes n = omega arith
few_words FourBytes n = omega arith
few_words EightBytes n = omega arith

pub overflow_cast-result : goal.overflow_cast-result
overflow_cast-result g c = record { fits = omega (arith, c.words_of_list.ensures, few_words c.size-size.result c.args.count, c.requires) }

pub returns-clause-known : goal.returns-clause-known
returns-clause-known g c = subst (λ (code : ℕ). code < 6) c.size-size.ensures (code_known c.size-size.result)

pub returns-clause-words : goal.returns-clause-words
returns-clause-words g c = subst (λ (code : ℕ). c.words_of_list.result ≡ words_for c.args.count (width code)) c.size-size.ensures c.words_of_list.ensures
