-- The words from here on are zero.
use Rattle.std.proofs.Common.{◌≡◌, ◌≤◌, length}
use Rattle.capnp_layout.specs.Prelude.{words_from, cut_zeros}
use Rattle.capnp_values.proofs.sections.used.Given as goal

abbrev pub invariant-words : goal.invariant-words
invariant-words l =
    (length (cut_zeros (words_from l.words 0 l.left)) ≡ length (cut_zeros l.words))
    × (l.left ≤ length l.words)

abbrev pub decreases-words : goal.decreases-words
decreases-words l = l.left
