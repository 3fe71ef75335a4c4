-- How many words a heap hands out, and how that grows (src/heap_allocator.rt).
use Rattle.std.specs.Prelude.{ℕ, zero, suc, ◌+◌, ◌-◌, max, if◌then◌else◌, nat_lt}
use Rattle.capnp_message.specs.declared.heap_allocator.AllocationStrategy.{AllocationStrategy}
use Rattle.capnp_message.specs.declared.heap_allocator.AllocationStrategy.TheVariants.{FixedSize, GrowHeuristically}

-- the words of a segment, given the next size and the words that are asked for
abbrev pub size_of : ℕ → ℕ → ℕ
size_of next asked = max asked next

-- the next size after a segment of this many words: it grows by these, up to the maximum
abbrev pub grown : ℕ → ℕ → ℕ → ℕ
grown next maximum size = if nat_lt size (maximum - next) then next + size else maximum

-- the next size after a segment; a segment of no words changes nothing
abbrev pub next_after : AllocationStrategy → ℕ → ℕ → ℕ → ℕ
next_after strategy next maximum zero = next
next_after FixedSize next maximum (suc n) = next
next_after GrowHeuristically next maximum (suc n) = grown next maximum (suc n)
