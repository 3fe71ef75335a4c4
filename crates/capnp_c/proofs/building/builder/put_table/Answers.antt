-- The table is zeros, and the length of the segment.
use Rattle.std.proofs.Common.{◌∙◌, take, length, arith, length-take}
use Rattle.capnp_c.proofs.RegionAfterTableLemmas.{table_put}
use Rattle.capnp_c.proofs.building.builder.put_table.Goals as goal

pub returns-clause-table : goal.returns-clause-table
returns-clause-table c =
    (table_put c.args.region.now c.fill.new.self c.copy_from_slice.new.self c.args.words (length (take 4 c.args.region.now)) (c.fill.ensures.after (λ y is. is)) (omega (arith, length-take 4 c.args.region.now, c.requires))
    (c.copy_from_slice.ensures.after ∙ c.to_le_bytes.ensures)).0

pub returns-clause-rest : goal.returns-clause-rest
returns-clause-rest c =
    (table_put c.args.region.now c.fill.new.self c.copy_from_slice.new.self c.args.words (length (take 4 c.args.region.now)) (c.fill.ensures.after (λ y is. is)) (omega (arith, length-take 4 c.args.region.now, c.requires))
    (c.copy_from_slice.ensures.after ∙ c.to_le_bytes.ensures)).1
