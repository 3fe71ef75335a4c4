use Rattle.capnp_bench.proofs.walk.+add_tree.Given as goal

abbrev pub decreases-add_tree : goal.decreases-add_tree
decreases-add_tree g l = l.deep
