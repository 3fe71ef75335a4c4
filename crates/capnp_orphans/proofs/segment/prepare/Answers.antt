-- The bytes from the first one on are zero.
use Rattle.std.proofs.Common.{◌≡◌, ◌∙◌, ◌+◌, ◌-◌, ℕ, length, take, drop, replicate, ap, arith, length-take, length-drop}
use Rattle.capnp_orphans.proofs.WrittenBlockIsOrphanLemmas.{middle_zero}
use Rattle.capnp_orphans.proofs.segment.prepare.Goals as goal

pub returns-then-bytes-from-ge64-clause-zero : goal.returns-then-bytes-from-ge64-clause-zero
returns-then-bytes-from-ge64-clause-zero c wants =
    let long : length (take (c.args.from + 64 - c.args.from) (drop c.args.from c.args.bytes.now)) ≡ c.args.from + 64 - c.args.from =
    omega (arith, length-take (c.args.from + 64 - c.args.from) (drop c.args.from c.args.bytes.now), length-drop c.args.from c.args.bytes.now, c.if-bytes-from-ge64.true) in
    middle_zero c.args.from c.args.added (c.args.from + 64 - c.args.from) c.args.bytes.now c.fill.new.self (omega (arith, c.requires)) (omega (arith, c.if-added-le64.true))
    (c.fill.ensures.after (λ y is. is) ∙ ap (λ (n : ℕ). replicate n 0) long)
