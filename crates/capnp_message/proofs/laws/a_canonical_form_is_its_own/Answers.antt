-- The law, as IdempotentCanonicalFormLemmas proves it.
use Rattle.capnp_message.proofs.IdempotentCanonicalFormLemmas.{is_its_own_form}
use Rattle.capnp_message.proofs.laws.a_canonical_form_is_its_own.Goals as goal

pub returns : goal.returns
returns c = is_its_own_form
