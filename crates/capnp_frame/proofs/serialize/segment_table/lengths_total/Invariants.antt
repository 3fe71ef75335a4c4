-- The lengths before the index are in the fields, and this is their sum.
use Rattle.std.proofs.Common.{◌≡◌, ◌*◌, ◌≤◌, ◌^◌}
use Rattle.std.specs.Prelude.{sum}
use Rattle.capnp_frame.specs.Prelude.{declared_lengths, SpellsLengths}
use Rattle.capnp_frame.proofs.serialize.segment_table.lengths_total.Given as goal

abbrev pub invariant-loop-index : goal.invariant-loop-index
invariant-loop-index l = record {
  total : l.total ≡ sum (declared_lengths l.index l.table);
  bound : l.total ≤ l.index * 2 ^ 32;
  lengths : SpellsLengths l.table l.index;
}
