-- The nesting decreases.
use Rattle.capnp_classic.proofs.eval.+add_expression.Given as goal

abbrev pub decreases-add_expression : goal.decreases-add_expression
decreases-add_expression l = l.nesting
