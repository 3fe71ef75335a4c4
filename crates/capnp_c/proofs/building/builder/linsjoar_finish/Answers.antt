-- The table is put before the segment.
use Rattle.std.proofs.Common.{◌/◌, ℕ, ap, arith, length-drop}
use Rattle.capnp_c.proofs.RegionAfterTableLemmas.{framed, no_builder_finishes}
use Rattle.capnp_c.proofs.building.builder.linsjoar_finish.Goals as goal

pub put_table-requires : goal.put_table-requires
put_table-requires c =
    let is = c.in-Some.ensures.0 in
    omega (arith, is.1.within, is.1.rooted, length-drop 8 c.args.region.now)

pub returns-in_default : goal.returns-in_default
returns-in_default c = no_builder_finishes c.args.builder.now c.args.region.now c.in_default.ensures

pub returns : goal.returns
returns c =
    framed c.args.builder.now c.args.region.now c.put_table.new.region _ c.in-Some.ensures.0 (ap (λ (n : ℕ). n / 8) c.in-Some.ensures.1) c.put_table.ensures.table c.put_table.ensures.rest c.put_table.ensures.len
