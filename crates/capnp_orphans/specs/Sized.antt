-- Objects whose sizes are known only at run time (src/objects).
use Rattle.std.specs.Prelude.{ℕ, zero, suc, ◌+◌, ◌*◌, ◌^◌, ◌<◌, ◌≤◌, List, [], ◌∷◌, length, take, drop}
use Rattle.capnp_layout.specs.Prelude.{digits, number_of, width}
use Rattle.capnp_orphans.specs.declared.draft.StructDraft.{StructDraft}
use Rattle.capnp_orphans.specs.Holds.{draft_of}

-- n structs that follow one another in these words: d data words of each, and then the words of its p orphans
abbrev pub drafts_in : (d p n : ℕ) → List ℕ → List (StructDraft (Unit {0}) d p)
drafts_in d p zero words = []
drafts_in d p (suc n) words = draft_of (take d words) (take p (drop d words)) ∷ drafts_in d p n (drop (d + p) words)

-- as many bytes as numbers of this code fill; the last byte may not be full
abbrev pub FillBytes : ℕ → ℕ → List ℕ → Type 0
FillBytes code count bytes = (count * width code ≤ 8 * length bytes) × (8 * length bytes < count * width code + 8)

-- the numbers of this code that are in these bytes, lowest bits first
abbrev pub numbers_in_bytes : ℕ → ℕ → List ℕ → List ℕ
numbers_in_bytes code count bytes = digits (2 ^ width code) count (number_of 256 bytes)
