-- The tops of the segments that are yielded.
use Rattle.std.proofs.Common.{take}
use Rattle.capnp_show.specs.Arrows.{AreTops}
use Rattle.capnp_show.proofs.arrows.Grid.new.Given as goal

abbrev pub invariant-loop-words : goal.invariant-loop-words
invariant-loop-words l = AreTops (take l.words-index l.words-items) l.tops.items l.height
