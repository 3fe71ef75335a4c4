-- The nesting decreases.
use Rattle.capnp_classic.proofs.eval.+value_of.Given as goal

abbrev pub decreases-value_of : goal.decreases-value_of
decreases-value_of g l = l.nesting
