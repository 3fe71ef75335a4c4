-- The words from here on are zero.
use Rattle.std.proofs.Common.{◌≡◌, ◌≤◌, length}
use Rattle.capnp_layout.specs.Prelude.{words_of, words_from, cut_zeros}
use Rattle.capnp_layout.proofs.block.used.Given as goal

abbrev pub invariant-words : goal.invariant-words
invariant-words l =
    (length (cut_zeros (words_from (words_of l.segment) l.start l.left)) ≡ length (cut_zeros (words_from (words_of l.segment) l.start l.count)))
    × (l.left ≤ l.count)

abbrev pub decreases-words : goal.decreases-words
decreases-words l = l.left
