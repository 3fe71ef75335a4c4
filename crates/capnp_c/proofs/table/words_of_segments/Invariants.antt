-- The words of the segments before.
use Rattle.std.proofs.Common.{◌≡◌, ◌+◌, ◌*◌, ◌^◌, ◌≤◌, drop}
use Rattle.std.specs.Prelude.{sum}
use Rattle.capnp_frame.specs.Prelude.{numbers}
use Rattle.capnp_c.proofs.table.words_of_segments.Given as goal

abbrev pub invariant-loop-before : goal.invariant-loop-before
invariant-loop-before l = (l.words ≡ sum (numbers l.before (drop (4 * (l.first + 1)) l.table))) × (l.words ≤ l.before * 2 ^ 32)
