-- A field is some of the bits of the data word that it is in.
use Rattle.std.proofs.Common.{◌*◌, ◌/◌, ◌%◌, ◌^◌, ℕ, sym, ap, ◌∙◌, arith}
use Rattle.capnp_wire.proofs.words.FieldAndElementAreBitsLemmas.{field_in_word}
use Rattle.capnp_orphans.proofs.draft.field_bits.Goals as goal

pub returns-clause-bits : goal.returns-clause-bits
returns-clause-bits c =
    let w = c.args.width in
    let i = c.args.offset in
    c.in_word.ensures.bits
    ∙ ap (λ (k : ℕ). k / 2 ^ (w * i % 64) % 2 ^ w) c.word_at.ensures
    ∙ sym (field_in_word c.args.words.now w i (w * i / 64) (w * i % 64) c.words_fit.ensures (omega arith) c.requires.one_word)
