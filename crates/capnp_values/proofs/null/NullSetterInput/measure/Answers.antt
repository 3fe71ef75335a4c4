-- A null pointer points to no words.
use Rattle.std.proofs.Common.{Ok}
use Rattle.capnp_wire.proofs.views.UniqueValueTreeAndMeasureLemmas.{measured_found, measured_exactly}
use Rattle.capnp_values.proofs.values.NullValueLemmas.{IsNull, null_has, one_null}
use Rattle.capnp_values.proofs.null.NullSetterInput.measure.Goals as goal

pub returns : goal.returns
returns g c = record {
  returned = null_has c.args._canonical;
  found = measured_found IsNull (λ kind. ⊥) one_null c.args._canonical (Ok 0) (null_has c.args._canonical);
  exact = measured_exactly IsNull (λ kind. ⊥) one_null c.args._canonical (Ok 0) (null_has c.args._canonical);
}
