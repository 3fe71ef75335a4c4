-- A write inside of the used bytes.
use Rattle.std.proofs.Common.{◌≡◌, ℕ, ◌+◌, ◌*◌, ◌≤◌, List, length, take, All, arith, ◌∙◌, ap, sym, subst}
use Rattle.capnp_build.specs.Prelude.{Space, with_bytes}
use Rattle.capnp_build.proofs.words.UsedBytesThenZerosLemmas.{written_used, written_zero, written_length, same_space, written_within}
use Rattle.capnp_build.proofs.builder_segment.BuilderSegment.write_at.Goals as goal

pub invariant_of-self : goal.invariant_of-self
invariant_of-self g c =
    let content : List ℕ = g.S.SegmentSpace.content c.self.inside.segment in
    let w : List ℕ = c.args.bytes.now in
    let n : ℕ = 8 * c.self.inside.words in
    let inside : c.args.at + length w ≤ n = written_within c.self.inside.words c.args.at c.args.self.now.used content w (ap (λ (s : Space). s.used) (sym c.self.view_is)) c.self.invariant.0 c.requires in
    rw c.write_at.ensures.bytes (
      omega (arith, c.self.invariant.0, inside, written_length c.args.at content w (omega (arith, c.self.invariant.0, inside))),
      subst (All (λ b. b ≡ 0)) (sym (written_zero c.args.at n content w inside c.self.invariant.0)) c.self.invariant.1,
      c.self.invariant.2,
    )

pub returns : goal.returns
returns g c =
    let content : List ℕ = g.S.SegmentSpace.content c.self.inside.segment in
    let w : List ℕ = c.args.bytes.now in
    let n : ℕ = 8 * c.self.inside.words in
    let inside : c.args.at + length w ≤ n = written_within c.self.inside.words c.args.at c.args.self.now.used content w (ap (λ (s : Space). s.used) (sym c.self.view_is)) c.self.invariant.0 c.requires in
    same_space _ _ _ _ _ _ (ap (take n) c.write_at.ensures.bytes ∙ written_used c.args.at n content w inside c.self.invariant.0)
    (ap length c.write_at.ensures.bytes ∙ written_length c.args.at content w (omega (arith, c.self.invariant.0, inside))) c.write_at.ensures.provided
    ∙ ap (λ (s : Space). with_bytes s c.args.at w) c.self.view_is
