-- The indices so far are the ranges of the lengths before the index, and end at their sum.
use Rattle.std.proofs.Common.{◌≡◌, ◌*◌, ◌≤◌, ◌^◌, map, take}
use Rattle.capnp_frame.specs.Prelude.{declared_lengths, SpellsLengths, range_len, AreRanges}
use Rattle.capnp_frame.proofs.serialize.segment_table.fill_segment_ranges.Given as goal

abbrev pub invariant-loop-index : goal.invariant-loop-index
invariant-loop-index l = record {
  declared : map range_len (take l.index l.indices) ≡ declared_lengths l.index l.table;
  ranges : AreRanges (take l.index l.indices) l.end;
  bound : l.end ≤ l.index * 2 ^ 32;
  lengths : SpellsLengths l.table l.index;
}
