-- The law, as TargetWrittenInCanonicalFormLemmas proves it.
use Rattle.capnp_wire.proofs.forms.TargetWrittenInCanonicalFormLemmas.{forms_tell}
use Rattle.capnp_wire.proofs.laws.equal_forms_are_of_equal_trees.Goals as goal

pub returns : goal.returns
returns c = forms_tell
