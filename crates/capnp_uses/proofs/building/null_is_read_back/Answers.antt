-- The root that is asked is the null one.
use Rattle.std.proofs.Common.{rules, sym, subst}
use Rattle.capnp_wire.specs.Prelude.{nothing, Denotes}
use Rattle.capnp_uses.proofs.BuiltRootViewLemmas.{null_is_read}
use Rattle.capnp_uses.proofs.building.null_is_read_back.Goals as goal

pub returns : goal.returns
returns g c =
    let null = null_is_read _ c.in_ok-write_null.ensures.has_root in
    let is = c.is_null.ensures.1 (subst (λ p. Denotes p nothing) (sym c.in_ok-root.ensures.returned) null) in
    record { has_root = c.in_ok-write_null.ensures.has_root; back = search rules; errors = tt }
