-- The depth decreases.
use Rattle.capnp_bench.proofs.orphans.tree.+tree.Given as goal

abbrev pub decreases-tree : goal.decreases-tree
decreases-tree l = l.depth
