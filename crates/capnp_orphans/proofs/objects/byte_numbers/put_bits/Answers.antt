-- All bits are kept, or some of the last byte.
use Rattle.std.proofs.Common.{◌-◌, ◌/◌, ◌%◌, ◌∙◌, ◌++◌, ℕ, List, length, ap, arith}
use Rattle.std.specs.Prelude.{replicate}
use Rattle.std.proofs.Math.ListN.{set}
use Rattle.capnp_layout.specs.Prelude.{words_of}
use Rattle.capnp_orphans.proofs.NumbersInBytesAsOrphanLemmas.{kept_whole, kept_masked}
use Rattle.capnp_orphans.proofs.objects.byte_numbers.put_bits.Goals as goal

pub returns-then-kept-eq0-clause-words : goal.returns-then-kept-eq0-clause-words
returns-then-kept-eq0-clause-words c =
    ap words_of c.put_padded.ensures.put
    ∙ kept_whole c.args.bytes.now c.args.bits (length c.args.block.now - length c.args.bytes.now) (length c.args.block.now / 8) c.put_padded.ensures.bytes
    (omega (arith, c.requires.full, c.requires.last, c.if-kept-eq0.true)) (omega (arith, c.requires.room, c.requires.whole))

pub returns-clause-words : goal.returns-clause-words
returns-clause-words c =
    ap words_of (ap (λ (l : List ℕ). set l (length c.args.bytes.now - 1) c.low_bits.result) c.put_padded.ensures.put)
    ∙ ap (λ (x : ℕ). words_of (set (c.args.bytes.now ++ replicate (length c.args.block.now - length c.args.bytes.now) 0) (length c.args.bytes.now - 1) x)) c.low_bits.ensures
    ∙ kept_masked c.args.bytes.now c.args.bits (c.args.bits % 8) (length c.args.bytes.now - 1) (length c.args.block.now - length c.args.bytes.now) (length c.args.block.now / 8) c.put_padded.ensures.bytes
    (omega (arith, c.requires.full, c.requires.last, c.if-kept-eq0.false)) (omega (arith, c.requires.full, c.requires.last, c.if-kept-eq0.false)) (omega arith)
    (omega (arith, c.requires.room, c.requires.whole))
