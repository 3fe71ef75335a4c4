-- The last word is zero where the bytes end.
use Rattle.std.proofs.Common.{◌++◌, ◌-◌, ◌∙◌, ℕ, List, length, take, drop, ap, arith, length-take, length-drop}
use Rattle.capnp_orphans.proofs.WrittenTextIsOrphanLemmas.{end_zero}
use Rattle.capnp_orphans.proofs.text_object.put_text.Goals as goal

pub returns-clause-put : goal.returns-clause-put
returns-clause-put c =
    let bytes : List ℕ = c.args.bytes.now in
    let block : List ℕ = c.args.block.now in
    let m : ℕ = length c.args.block.now - 8 in
    let zeros = c.fill.ensures.after (λ y is. is) in
    ap (λ (l : List ℕ). l ++ drop (length bytes) (take m block ++ (c.fill.new.self ++ drop (length block - m) (drop m block)))) c.copy_from_slice.ensures.after
    ∙ ap (λ (l : List ℕ). bytes ++ l) (end_zero bytes block c.fill.new.self (length c.args.block.now - 8) _ (omega arith) (omega (arith, c.requires.last)) zeros
    (omega (arith, length-take (length c.args.block.now - (length c.args.block.now - 8)) (drop (length c.args.block.now - 8) c.args.block.now), length-drop (length c.args.block.now - 8) c.args.block.now)))

pub returns-clause-bytes : goal.returns-clause-bytes
returns-clause-bytes c i = omega (arith, c.type_inv.bytes i)
