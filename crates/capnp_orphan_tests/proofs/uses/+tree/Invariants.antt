-- The depth decreases.
use Rattle.capnp_orphan_tests.proofs.uses.+tree.Given as goal

abbrev pub decreases-tree : goal.decreases-tree
decreases-tree l = l.depth
