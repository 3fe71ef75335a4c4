-- What is in a caller-provided region.
use Rattle.std.specs.Prelude.{◌≡◌, ◌⊎◌, ℕ, ◌+◌, ◌≤◌, false, length}
use Rattle.capnp_frame.specs.declared.error.ErrorKind.{ErrorKind}
use Rattle.capnp_frame.specs.declared.error.ErrorKind.TheVariants.{OutOfMemory, AllocationTooLarge}
use Rattle.capnp_wire.specs.Prelude.{Trees, HasWords}
use Rattle.capnp_build.specs.Prelude.{Built, size_in_words, BlockIsAt}

-- a block of this many words is just after the root's word in the one segment, and nothing else is
-- used
abbrev pub IsOnlyBlock : {A : Type 0} → Built A → ℕ → Type 0
IsOnlyBlock message words = BlockIsAt message.location 0 1 words × (length message.spaces ≡ 1) × (size_in_words message.spaces ≡ 1 + words)

-- a region of this many words has no room for the root, or for a value after it: one more segment
-- is asked for, unless the list of segments can't grow
abbrev pub RegionRoomError : (Trees → Type 0) → ℕ → ErrorKind → Type 0
RegionRoomError has_tree room kind = ((room ≡ 0) × (kind ≡ AllocationTooLarge 1))
    ⊎ ((words : ℕ) × HasWords has_tree false words × (room ≤ words) × ((kind ≡ AllocationTooLarge (words + 1)) ⊎ (kind ≡ OutOfMemory)))
