-- The root of the segment after the table is set.
use Rattle.std.proofs.Common.{ℕ, drop, sym, subst, arith, length-drop}
use Rattle.capnp_orphans.specs.Regions.{IsUsed, SetsRootInRegion}
use Rattle.capnp_c.proofs.RegionAfterTableLemmas.{root_set, no_builder_sets}
use Rattle.capnp_c.proofs.building.builder.linsjoar_set_root.Goals as goal

pub set_root_after_table-requires-clause-table : goal.set_root_after_table-requires-clause-table
set_root_after_table-requires-clause-table c =
    let is = c.in-Some.ensures.0 in
    omega (arith, is.1.within, is.1.rooted, length-drop 8 c.args.region.now)

pub set_root_after_table-requires-clause-used : goal.set_root_after_table-requires-clause-used
set_root_after_table-requires-clause-used c = subst (λ (n : ℕ). IsUsed (drop 8 c.args.region.now) n) (sym c.in-Some.ensures.1) c.in-Some.ensures.0.1

pub returns-in_default : goal.returns-in_default
returns-in_default c = no_builder_sets c.args.builder.now c.args.region.now c.args.orphan c.in_default.ensures

pub returns : goal.returns
returns c =
    root_set c.args.builder.now c.args.region.now c.set_root_after_table.new.region c.args.orphan c.in-Some.ensures.0
    (subst (λ (n : ℕ). SetsRootInRegion c.args.orphan n (drop 8 c.args.region.now) (drop 8 c.set_root_after_table.new.region)) c.in-Some.ensures.1 c.set_root_after_table.ensures.root)
    c.set_root_after_table.ensures.table c.set_root_after_table.ensures.len
