-- Structs that are made one by one (src/built.rt).
use Rattle.std.specs.Prelude.{ℕ, ◌*◌, [], ◌∷◌}
use Rattle.capnp_wire.specs.declared.any_struct.Owned.{Owned}
use Rattle.capnp_orphans.specs.declared.draft.StructDraft.{StructDraft}
use Rattle.capnp_orphans.specs.Holds.{draft_of}

abbrev pub square : ℕ → StructDraft Owned 1 0
square n = draft_of (n * n ∷ []) []
