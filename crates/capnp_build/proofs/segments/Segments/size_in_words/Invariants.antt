-- The words of the segments that were passed.
use Rattle.std.proofs.Common.{◌≡◌, ◌*◌, ◌^◌, ◌≤◌, take}
use Rattle.capnp_build.specs.Prelude.{size_in_words}
use Rattle.capnp_build.proofs.segments.Segments.size_in_words.Given as goal

abbrev pub invariant-loop-index : goal.invariant-loop-index
invariant-loop-index g l = (l.words ≡ size_in_words (take l.index l.self.spaces)) × (l.words ≤ 2 ^ 29 * l.index)
