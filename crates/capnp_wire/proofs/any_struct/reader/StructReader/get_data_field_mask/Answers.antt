-- Where two values have no more bits than an element, they differ in no others.
use Rattle.std.proofs.Common.{◌^◌, ◌<◌, ℕ, subst}
use Rattle.std.proofs.lemmas.Nat.{xor_lt}
use Rattle.capnp_layout.specs.Prelude.{width}
use Rattle.capnp_wire.proofs.any_struct.reader.StructReader.get_data_field_mask.Goals as goal

pub from_bits-requires : goal.from_bits-requires
from_bits-requires g c =
    let few = subst (λ (code : ℕ). c.field_bits.result < 2 ^ width code) c.size.ensures c.field_bits.ensures.few in
    xor_lt (width g.T.PrimitiveElement.code) c.field_bits.result c.to_bits-default_bits.result few c.to_bits-default_bits.ensures.few
