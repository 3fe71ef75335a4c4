-- What follows the table is the region that is continued.
use Rattle.std.proofs.Common.{ℕ, List, drop, sym, subst}
use Rattle.std.proofs.lemmas.List.{take_rest}
use Rattle.capnp_orphans.specs.Regions.{IsUsed, SetsRootInRegion}
use Rattle.capnp_c.proofs.RegionAfterTableLemmas.{after_table, table_stays}
use Rattle.capnp_c.proofs.building.builder.set_root_after_table.Goals as goal

pub set_root-requires : goal.set_root-requires
set_root-requires c = subst (λ (l : List ℕ). IsUsed l c.args.used) (sym (take_rest c.args.region.now 8)) c.requires.used

pub returns-clause-root : goal.returns-clause-root
returns-clause-root c =
    subst (λ (l : List ℕ). SetsRootInRegion c.args.orphan c.args.used (drop 8 c.args.region.now) l)
    (sym (after_table c.args.region.now c.set_root.new.region c.requires.table))
    (subst (λ (l : List ℕ). SetsRootInRegion c.args.orphan c.args.used l c.set_root.new.region) (take_rest c.args.region.now 8) c.set_root.ensures.root)

pub returns-clause-table : goal.returns-clause-table
returns-clause-table c = table_stays c.args.region.now c.set_root.new.region c.requires.table
