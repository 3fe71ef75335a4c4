-- What follows the table is the region that is continued.
use Rattle.std.proofs.Common.{◌+◌, ◌*◌, ◌≤◌, ℕ, List, drop, length, sym, subst}
use Rattle.std.proofs.lemmas.List.{take_rest}
use Rattle.capnp_orphans.specs.Regions.{IsUsed, AppendsInRegion}
use Rattle.capnp_c.proofs.RegionAfterTableLemmas.{after_table, table_stays}
use Rattle.capnp_c.proofs.building.builder.append_after_table.Goals as goal

pub append-requires-clause-used : goal.append-requires-clause-used
append-requires-clause-used g c = subst (λ (l : List ℕ). IsUsed l c.args.used) (sym (take_rest c.args.region.now 8)) c.requires.used

pub append-requires-clause-room : goal.append-requires-clause-room
append-requires-clause-room g c = subst (λ (l : List ℕ). c.args.used + 8 * c.args.words ≤ length l) (sym (take_rest c.args.region.now 8)) c.requires.room

pub returns-clause-appends : goal.returns-clause-appends
returns-clause-appends g c =
    subst (λ (l : List ℕ). AppendsInRegion (g.O.Object.holds c.args.object.now) c.args.words c.args.used (drop 8 c.args.region.now) l c.append.result)
    (sym (after_table c.args.region.now c.append.new.region c.requires.table))
    (subst (λ (l : List ℕ). AppendsInRegion (g.O.Object.holds c.args.object.now) c.args.words c.args.used l c.append.new.region c.append.result) (take_rest c.args.region.now 8) c.append.ensures.appends)

pub returns-clause-table : goal.returns-clause-table
returns-clause-table g c = table_stays c.args.region.now c.append.new.region c.requires.table
