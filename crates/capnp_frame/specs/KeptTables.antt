-- What is kept of a table next to its buffer (src/serialize/no_alloc_buffer_segments.rt).
use Rattle.std.specs.Prelude.{◌≡◌, ℕ, ◌+◌, ◌<◌, List, sum, slice_index}
use Rattle.capnp_frame.specs.Front.{declared_lengths}

-- The ends of the first segments, in words after the table: of eight, or of all where there are fewer.
abbrev pub KeepsEnds : List ℕ → ℕ → List ℕ → Type 0
KeepsEnds ends count bytes = (index : ℕ) → index < 8 → index < count → slice_index ends index ≡ sum (declared_lengths (index + 1) bytes)
