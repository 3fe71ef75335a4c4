-- The law, as ExactCanonicalTestLemmas proves it.
use Rattle.capnp_wire.proofs.forms.ExactCanonicalTestLemmas as law
use Rattle.capnp_wire.proofs.laws.tests_are_exact.Goals as goal

pub returns : goal.returns
returns c = law.tests_are_exact
