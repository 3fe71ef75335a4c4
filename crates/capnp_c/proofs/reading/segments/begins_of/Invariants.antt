-- The groups so far.
use Rattle.std.proofs.Common.{◌≡◌, ℕ, ◌+◌, ◌*◌, ◌^◌, ◌<◌, ◌≤◌, length, get_or}
use Rattle.std.specs.Prelude.{sum}
use Rattle.capnp_frame.specs.Prelude.{table_size, declared_lengths}
use Rattle.capnp_c.specs.Segments.{group_begin}
use Rattle.capnp_c.proofs.reading.segments.begins_of.Given as goal

abbrev pub invariant-loop-group : goal.invariant-loop-group
invariant-loop-group l =
    (l.begin ≡ table_size l.count + 8 * sum (declared_lengths (16 * l.group) l.bytes)) × (l.begin ≤ 2048 + 8 * (16 * l.group * 2 ^ 32))
    × (length l.begins ≡ 31) × ((k : ℕ) → k < l.group → get_or l.begins k 0 ≡ group_begin l.count l.bytes k)
    × ((k : ℕ) → l.group ≤ k → k < 31 → get_or l.begins k 0 ≡ 0)
