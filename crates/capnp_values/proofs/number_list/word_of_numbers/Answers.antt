-- The bits of some numbers in one word.
use Rattle.std.proofs.Common.{◌≡◌, ◌+◌, ◌*◌, ◌^◌, ◌-◌, ◌<◌, ℕ, ap, ◌∙◌, arith, drop, map}
use Rattle.capnp_layout.specs.Prelude.{width, number_of}
use Rattle.capnp_values.proofs.numbers.NumberListAsWordsLemmas.{front_small}
use Rattle.capnp_values.proofs.number_list.word_of_numbers.Goals as goal

pub prepend_bits-word-requires-clause-room : goal.prepend_bits-word-requires-clause-room
prepend_bits-word-requires-clause-room g c =
    let w : ℕ = width g.N.PrimitiveElement.code in
    let inv = c.items.invariant in
    let small : g.N.PrimitiveElement.bits_of c.index-items-left.result + 2 ^ w * number_of (2 ^ w) (map g.N.PrimitiveElement.bits_of (drop c.items.left c.args.items.now)) < 2 ^ 64 =
    front_small g.N.PrimitiveElement.bits_of w c.args.items.now (c.items.left - 1) c.items.left c.index-items-left.result (omega arith) (omega (arith, inv.0)) c.index-items-left.is
    (omega (arith, c.to_bits.ensures.bits, c.to_bits.ensures.few)) inv.1 c.requires in
    let width_is : c.bits.result ≡ w = c.bits.ensures.bits ∙ ap width c.size.ensures in
    let value : c.to_bits.result + 2 ^ c.bits.result * c.items.word ≡ g.N.PrimitiveElement.bits_of c.index-items-left.result + 2 ^ w * number_of (2 ^ w) (map g.N.PrimitiveElement.bits_of (drop c.items.left c.args.items.now)) =
    ap (λ (n : ℕ). n + 2 ^ c.bits.result * c.items.word) c.to_bits.ensures.bits
    ∙ ap (λ (n : ℕ). g.N.PrimitiveElement.bits_of c.index-items-left.result + 2 ^ n * c.items.word) width_is
    ∙ ap (λ (n : ℕ). g.N.PrimitiveElement.bits_of c.index-items-left.result + 2 ^ w * n) inv.2 in
    omega (arith, small, value)
