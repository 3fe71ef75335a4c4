-- Bytes are put into a block of zeros.
use Rattle.std.proofs.Common.{◌≡◌, ◌+◌, ◌*◌, ◌++◌, ◌-◌, ℕ, length, take, drop, List, ap, ◌∙◌, arith}
use Rattle.capnp_layout.specs.Prelude.{words_of}
use Rattle.capnp_wire.proofs.layouts.NullAndNumbersWrittenLemmas.{padded_put}
use Rattle.capnp_wire.proofs.layout.value.put_padded.Goals as goal

pub returns-clause-words : goal.returns-clause-words
returns-clause-words c words within room =
    let bytes : List ℕ = c.args.bytes.now in
    let rest : List ℕ = drop (8 * c.args.next) c.args.block.now in
    let long : 8 * c.args.next + length bytes - 8 * c.args.next ≡ length bytes = omega arith in
    ap (λ (l : List ℕ). words_of (take (8 * c.args.next) c.args.block.now ++ (l ++ drop (8 * c.args.next + length bytes - 8 * c.args.next) rest))) c.copy_from_slice.ensures.after
    ∙ ap (λ (n : ℕ). words_of (take (8 * c.args.next) c.args.block.now ++ (bytes ++ drop n rest))) long
    ∙ padded_put c.args.next words bytes c.args.block.now (λ i. omega (arith, c.type_inv.bytes i)) c.requires.free within room
