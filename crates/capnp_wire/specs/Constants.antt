-- Constants and defaults, as messages of one segment (src/constant.rt).
use Rattle.std.specs.Prelude.{◌≡◌, ℕ, List, [], ◌∷◌}
use Rattle.capnp_wire.specs.Readers.{unlimited_root}
use Rattle.capnp_wire.specs.Views.{Pointer, Struct, IsStruct, data_struct}
use Rattle.capnp_wire.specs.declared.constant.Words.{Words}

-- the one segment
abbrev pub segments_of : {size : ℕ} → Words size → List (List ℕ)
segments_of words = words.bytes ∷ []

-- The root pointer, which is read without limits. A proof that needs its place unfolds it, and no other proof
-- reads its words.
unfoldable pub root_of : {size : ℕ} → Words size → Pointer
root_of words = unlimited_root (segments_of words)

-- the data words of a default's struct, as a struct with no pointers, in place of what a pointer of a message
-- points to
abbrev pub IsDefaultData : Pointer → Pointer → Struct → Type 0
IsDefaultData constant pointer fields = (there : Struct) × IsStruct constant there × (fields ≡ data_struct pointer there.words)
