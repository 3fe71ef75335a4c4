-- The law, as TargetWrittenInCanonicalFormLemmas proves it.
use Rattle.capnp_wire.proofs.forms.TargetWrittenInCanonicalFormLemmas.{form_is_canonical}
use Rattle.capnp_wire.proofs.laws.a_canonical_form_is_canonical.Goals as goal

pub returns : goal.returns
returns c = form_is_canonical
