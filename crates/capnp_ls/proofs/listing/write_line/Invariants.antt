-- The first lengths are listed after what was in the line before.
use Rattle.std.proofs.Common.{◌-◌, ◌≡◌, ◌++◌, List, ℕ, length}
use Rattle.capnp_ls.proofs.LineListsSegmentLengthsLemmas.{ListsLengths}
use Rattle.capnp_ls.proofs.listing.write_line.Given as goal

abbrev pub invariant-loop-words : goal.invariant-loop-words
invariant-loop-words l = (listed : List ℕ) × (l.line.items ≡ l.initial.line.items ++ listed) × ListsLengths l.lengths l.id listed

abbrev pub decreases-loop-words : goal.decreases-loop-words
decreases-loop-words l = length l.lengths - l.id
