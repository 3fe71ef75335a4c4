-- Zeros inside of the used bytes.
use Rattle.std.proofs.Common.{◌≡◌, ℕ, ◌+◌, ◌-◌, ◌*◌, ◌≤◌, List, length, take, replicate, All, arith, ◌∙◌, ap, sym, subst}
use Rattle.std.proofs.lemmas.List.{length-replicate}
use Rattle.capnp_build.specs.Prelude.{Space, with_bytes}
use Rattle.capnp_build.proofs.words.UsedBytesThenZerosLemmas.{written_used, written_zero, written_length, same_space, written_within}
use Rattle.capnp_build.proofs.builder_segment.BuilderSegment.zero.Goals as goal

pub invariant_of-self : goal.invariant_of-self
invariant_of-self g c =
    let content : List ℕ = g.S.SegmentSpace.content c.self.inside.segment in
    let w : List ℕ = (replicate (c.args.to - c.args.from) 0) in
    let n : ℕ = 8 * c.self.inside.words in
    let inside : c.args.from + length w ≤ n = written_within c.self.inside.words c.args.from c.args.self.now.used content w (ap (λ (s : Space). s.used) (sym c.self.view_is)) c.self.invariant.0
    (omega (arith, c.requires.order, c.requires.within, length-replicate {A = ℕ} (c.args.to - c.args.from) 0)) in
    rw c.zero.ensures.bytes (
      omega (arith, c.self.invariant.0, inside, written_length c.args.from content w (omega (arith, c.self.invariant.0, inside))),
      subst (All (λ b. b ≡ 0)) (sym (written_zero c.args.from n content w inside c.self.invariant.0)) c.self.invariant.1,
      c.self.invariant.2,
    )

pub returns : goal.returns
returns g c =
    let content : List ℕ = g.S.SegmentSpace.content c.self.inside.segment in
    let w : List ℕ = (replicate (c.args.to - c.args.from) 0) in
    let n : ℕ = 8 * c.self.inside.words in
    let inside : c.args.from + length w ≤ n = written_within c.self.inside.words c.args.from c.args.self.now.used content w (ap (λ (s : Space). s.used) (sym c.self.view_is)) c.self.invariant.0
    (omega (arith, c.requires.order, c.requires.within, length-replicate {A = ℕ} (c.args.to - c.args.from) 0)) in
    same_space _ _ _ _ _ _ (ap (take n) c.zero.ensures.bytes ∙ written_used c.args.from n content w inside c.self.invariant.0)
    (ap length c.zero.ensures.bytes ∙ written_length c.args.from content w (omega (arith, c.self.invariant.0, inside))) c.zero.ensures.provided
    ∙ ap (λ (s : Space). with_bytes s c.args.from w) c.self.view_is
