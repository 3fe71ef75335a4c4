-- The words of one segment more.
use Rattle.std.proofs.Common.{◌≡◌, ℕ, suc, ◌+◌, ◌/◌, ◌<◌, List, length, take, ap, ◌∙◌, arith}
use Rattle.capnp_build.specs.Prelude.{Space, space_at, size_in_words}
use Rattle.capnp_build.proofs.states.SegmentSizesAfterChangeLemmas.{used_size_more}
use Rattle.capnp_build.proofs.segments.Segments.size_in_words.Goals as goal

pub loop-index-preserved : goal.loop-index-preserved
loop-index-preserved g c =
    let spaces : List Space = c.args.self.now.spaces in
    let i : ℕ = c.loop-index.index in
    let within : i < length spaces = omega (arith, c.loop-index-test.true, c.len-index-end.ensures) in
    let one_more : i + 1 ≡ suc i = omega arith in
    let next : size_in_words (take (i + 1) spaces) ≡ size_in_words (take i spaces) + length (space_at spaces i).used / 8 =
    ap (λ (n : ℕ). size_in_words (take n spaces)) one_more ∙ used_size_more spaces i within in
    (omega (arith, next, c.loop-index.invariant.0, c.words.ensures.words), omega (arith, c.loop-index.invariant.1, c.words.ensures.bound))
