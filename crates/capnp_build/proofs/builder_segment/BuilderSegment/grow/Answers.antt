-- More bytes are used, which are zero.
use Rattle.std.proofs.Common.{◌≡◌, ℕ, ◌+◌, ◌*◌, List, ◌++◌, take, replicate, arith, ◌∙◌, ap, refl, sym}
use Rattle.capnp_build.specs.Prelude.{Space, with_block}
use Rattle.capnp_build.proofs.words.UsedBytesThenZerosLemmas.{grows, still_zero, same_space, grown_within}
use Rattle.capnp_build.proofs.builder_segment.BuilderSegment.grow.Goals as goal

pub invariant_of-self : goal.invariant_of-self
invariant_of-self g c =
    let content : List ℕ = g.S.SegmentSpace.content c.self.inside.segment in
    let room = grown_within c.self.inside.words c.args.words c.args.self.now.size c.args.self.now.used content (ap (λ (s : Space). s.used) (sym c.self.view_is)) (ap (λ (s : Space). s.size)
    (sym c.self.view_is)) c.self.invariant.0 c.self.invariant.2 c.requires in
    let e : 8 * c.self.inside.words + 8 * c.args.words ≡ 8 * (c.self.inside.words + c.args.words) = omega arith in
    rw (← e) (room.0, still_zero (8 * c.self.inside.words) (8 * c.args.words) content c.self.invariant.1, room.1)

pub returns : goal.returns
returns g c =
    let content : List ℕ = g.S.SegmentSpace.content c.self.inside.segment in
    let room = grown_within c.self.inside.words c.args.words c.args.self.now.size c.args.self.now.used content (ap (λ (s : Space). s.used) (sym c.self.view_is)) (ap (λ (s : Space). s.size)
    (sym c.self.view_is)) c.self.invariant.0 c.self.invariant.2 c.requires in
    let e : 8 * (c.self.inside.words + c.args.words) ≡ 8 * c.self.inside.words + 8 * c.args.words = omega arith in
    let more : take (8 * (c.self.inside.words + c.args.words)) content ≡ take (8 * c.self.inside.words) content ++ replicate (8 * c.args.words) 0 =
    ap (λ (k : ℕ). take k content) e ∙ grows (8 * c.self.inside.words) (8 * c.args.words) content room.0 c.self.invariant.1 in
    same_space _ _ _ _ _ _ more refl refl ∙ ap (λ (s : Space). with_block s (8 * c.args.words)) c.self.view_is
