-- The most words that one part needs, part by part.
use Rattle.std.proofs.Common.{◌≡◌, ◌+◌, ◌-◌, ◌/◌, ◌<◌, max, length, ◌∙◌, sym, arith, ℕ}
use Rattle.capnp_layout.specs.Prelude.{words_of}
use Rattle.capnp_layout.proofs.words.LengthWithoutTrailingZerosLemmas.{most_next, most_none, most_within, stretch_next}
use Rattle.capnp_layout.proofs.words.TrimmedSectionBoundLemmas.{most_within_parts}
use Rattle.capnp_layout.proofs.block.most_used.Goals as goal

pub returns-then-count-eq0-clause-value : goal.returns-then-count-eq0-clause-value
returns-then-count-eq0-clause-value c = rw c.if-count-eq0.true (sym (most_none _ c.args.start c.args.step c.args.parts))

pub returns-then-most-count-clause-value : goal.returns-then-most-count-clause-value
returns-then-most-count-clause-value c =
    let rest = most_within_parts (words_of c.args.segment.now) c.parts.part c.args.count c.args.step (c.args.parts - c.parts._part) in
    omega (arith, c.parts.invariant.0, c.if-most-count.true, rest)

pub parts-preserved : goal.parts-preserved
parts-preserved c =
    let words = words_of c.args.segment.now in
    let left : ℕ = c.args.parts - c.parts._part in
    let some : 0 < c.args.parts - c.parts._part = omega arith in
    let less : c.args.parts - c.parts._part - 1 ≡ c.args.parts - (c.parts._part + 1) = omega arith in
    let so_far = c.parts.invariant in
    let most : c.larger-most.result ≡ max c.parts.most c.used.result = c.larger-most.ensures in
    let next = most_next words c.parts.part c.args.count c.args.step (c.args.parts - c.parts._part) c.parts.most some in
    let within = most_within words c.parts.part c.args.count in (
      rw (most, c.used.ensures, ← less) (sym next ∙ so_far.0),
      rw (← less) (stretch_next c.parts.part c.args.count c.args.step (c.args.parts - c.parts._part) (length c.args.segment.now / 8) some so_far.1),
      omega (arith, most, c.used.ensures, within, so_far.2),
    )
