-- A block after the used bytes.
use Rattle.std.proofs.Common.{◌≡◌, ℕ, ◌+◌, ◌*◌, ◌≤◌, List, ◌++◌, length, take, drop, All, arith, ◌∙◌, ap, sym, subst}
use Rattle.capnp_build.specs.Prelude.{Space, written, with_more}
use Rattle.capnp_build.proofs.words.UsedBytesThenZerosLemmas.{block_after, still_zero, same_space, written_length, written_zero, grown_within}
use Rattle.capnp_build.proofs.builder_segment.BuilderSegment.append.Goals as goal

pub invariant_of-self : goal.invariant_of-self
invariant_of-self g c =
    let content : List ℕ = g.S.SegmentSpace.content c.self.inside.segment in
    let words : ℕ = c.self.inside.words in
    let n : ℕ = c.args.words in
    let room = grown_within words n c.args.self.now.size c.args.self.now.used content (ap (λ (s : Space). s.used) (sym c.self.view_is)) (ap (λ (s : Space). s.size)
    (sym c.self.view_is)) c.self.invariant.0 c.self.invariant.2 c.requires.room in
    let f = c.write_value-pointer.ensures.filled in
    let on : 8 * words + 8 * n ≡ 8 * (words + n) = omega arith in
    let inside : 8 * words + length f.block ≤ 8 * (words + n) = omega (arith, f.len) in
    let fits : 8 * (words + n) ≤ length content = omega (arith, room.0) in
    rw f.bytes (
      omega (arith, fits, inside, written_length (8 * words) content f.block (omega (arith, fits, inside))),
      subst (All (λ b. b ≡ 0)) (sym (written_zero (8 * words) (8 * (words + n)) content f.block inside fits))
          (subst (λ (k : ℕ). All (λ b. b ≡ 0) (drop k content)) on (still_zero (8 * words) (8 * n) content c.self.invariant.1)),
      room.1,
    )

pub returns : goal.returns
returns g c =
    let content : List ℕ = g.S.SegmentSpace.content c.self.inside.segment in
    let words : ℕ = c.self.inside.words in
    let n : ℕ = c.args.words in
    let room = grown_within words n c.args.self.now.size c.args.self.now.used content (ap (λ (s : Space). s.used) (sym c.self.view_is)) (ap (λ (s : Space). s.size)
    (sym c.self.view_is)) c.self.invariant.0 c.self.invariant.2 c.requires.room in
    let f = c.write_value-pointer.ensures.filled in
    let on : 8 * (words + n) ≡ 8 * words + 8 * n = omega arith in
    let long : length f.block ≡ 8 * n = omega (arith, f.len) in
    let more : take (8 * (words + n)) (g.S.SegmentSpace.content c.write_value-pointer.new.self) ≡ take (8 * words) content ++ f.block =
    ap (take (8 * (words + n))) f.bytes ∙ ap (λ (k : ℕ). take k (written content (8 * words) f.block)) on ∙ block_after (8 * words) (8 * n) content f.block long room.0 in
    let size : length (g.S.SegmentSpace.content c.write_value-pointer.new.self) ≡ length content =
    ap length f.bytes ∙ written_length (8 * words) content f.block (omega (arith, room.0, long)) in
    record {
      block = f.block;
      len = long;
      holds = f.holds;
      space = same_space _ _ _ _ _ _ more size c.write_value-pointer.ensures.provided ∙ ap (λ (s : Space). with_more s f.block) c.self.view_is;
    }
