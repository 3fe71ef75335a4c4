-- Segments that are the region, or from the heap (src/scratch_space.rt).
use Rattle.std.specs.Prelude.{ℕ, Bool, true, false, List}
use Rattle.capnp_message.specs.declared.scratch_space.ScratchSegment.{ScratchSegment}
use Rattle.capnp_message.specs.declared.scratch_space.ScratchSegment.TheVariants.{Lent, Owned}

abbrev pub scratch_bytes : ScratchSegment → List ℕ
scratch_bytes (Lent s) = s.now
scratch_bytes (Owned v) = v.items

abbrev pub scratch_provided : ScratchSegment → Bool
scratch_provided (Lent s) = true
scratch_provided (Owned v) = false
