-- The number is in the word that has its first bit.
use Rattle.std.proofs.Common.{◌≡◌, ◌*◌, ◌/◌, ◌%◌, ◌^◌, ap, ◌∙◌, arith}
use Rattle.capnp_layout.specs.Prelude.{code_of, width}
use Rattle.capnp_c.proofs.reading.list_elements.number_in.Goals as goal

pub returns : goal.returns
returns c =
    let w = width (code_of c.args.size) in
    let low = c.word_of-word.result / 2 ^ (c.args.bits % 64) in
    let none : w * 0 % 64 ≡ 0 = omega arith in
    let whole : low / 2 ^ (w * 0 % 64) ≡ low = ap (λ k. low / 2 ^ k) none ∙ omega arith in (
      omega arith,
      c.in_word.ensures ∙ ap (λ k. k % 2 ^ w) whole ∙ ap (λ k. k / 2 ^ (c.args.bits % 64) % 2 ^ w) c.word_of-word.ensures,
    )
