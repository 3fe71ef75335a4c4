-- The ends before the index are kept, and the last is the sum of the lengths so far.
use Rattle.std.proofs.Common.{◌≡◌, ℕ, ◌+◌, ◌<◌, length}
use Rattle.std.specs.Prelude.{sum, slice_index}
use Rattle.capnp_frame.specs.Prelude.{declared_lengths}
use Rattle.capnp_frame.proofs.serialize.no_alloc_buffer_segments.first_ends.Given as goal

abbrev pub invariant-loop-index : goal.invariant-loop-index
invariant-loop-index l = record {
  long : length l.ends ≡ 8;
  end : l.end ≡ sum (declared_lengths l.index l.bytes);
  kept : (k : ℕ) → k < l.index → slice_index l.ends k ≡ sum (declared_lengths (k + 1) l.bytes);
}
