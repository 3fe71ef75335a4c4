use Rattle.capnp_bench.proofs.shape.Shape.+push.Given as goal

abbrev pub decreases-push : goal.decreases-push
decreases-push l = l.depth
