-- The fields that are read are at the root.
use Rattle.std.proofs.Common.{rules, refl, [], ◌∷◌}
use Rattle.capnp_wire.specs.Prelude.{struct, TakesStruct}
use Rattle.capnp_uses.proofs.BuiltRootViewLemmas.{root_is_shown, root_accepts}
use Rattle.capnp_uses.proofs.building.a_struct_is_read_back.Goals as goal

pub returns : goal.returns
returns g c =
    let there = root_is_shown _ _ _ c.in_ok-write_struct.ensures.has_root c.in_ok-fields.ensures.returned.shown in
    record { has_root = c.in_ok-write_struct.ensures.has_root; back = search rules; errors = tt }

pub returns-in_err-fields-clause-errors : goal.returns-in_err-fields-clause-errors
returns-in_err-fields-clause-errors g c =
    let never = c.in_err-fields.ensures.found refl (root_accepts _ (struct (c.args.first ∷ c.args.second ∷ [])) TakesStruct c.in_ok-write_struct.ensures.has_root tt) in
    absurd (cc)
