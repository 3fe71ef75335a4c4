-- The data that is read is at the root.
use Rattle.std.proofs.Common.{rules, refl}
use Rattle.capnp_wire.specs.Prelude.{numbers, IsData, TakesNumbers}
use Rattle.capnp_uses.proofs.BuiltRootViewLemmas.{root_is_read, root_accepts}
use Rattle.capnp_uses.proofs.building.data_is_read_back.Goals as goal

pub returns : goal.returns
returns g c =
    let there = root_is_read _ (numbers 2 c.args.bytes.now) (λ form. IsData form c.in_ok-data.data.now)
    c.in_ok-write_data.ensures.has_root c.in_ok-data.ensures.returned in
    record { has_root = c.in_ok-write_data.ensures.has_root; back = search rules; errors = tt }

pub returns-in_err-data-clause-errors : goal.returns-in_err-data-clause-errors
returns-in_err-data-clause-errors g c =
    let never = c.in_err-data.ensures.found refl (root_accepts _ (numbers 2 c.args.bytes.now) (TakesNumbers 2) c.in_ok-write_data.ensures.has_root refl) in
    absurd (cc)
