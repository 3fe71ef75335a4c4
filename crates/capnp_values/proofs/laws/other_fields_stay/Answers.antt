-- The law, as DataFieldSetLemmas proves it.
use Rattle.capnp_values.proofs.numbers.DataFieldSetLemmas as law
use Rattle.capnp_values.proofs.laws.other_fields_stay.Goals as goal

pub returns : goal.returns
returns c = law.field_stays
