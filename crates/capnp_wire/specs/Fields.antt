-- Fields of the data section of a struct (src/any_struct/fields.rt). Encoding document, "Structs".
use Rattle.std.specs.Prelude.{ℕ, ◌*◌, ◌/◌, ◌%◌, ◌^◌, List}
use Rattle.capnp_layout.specs.Prelude.{number_of}

-- The bits of a field of a given width, at an offset in units of that width. The section is read as
-- one number, the lowest word first, and is zero past its end.
abbrev pub field : List ℕ → ℕ → ℕ → ℕ
field words bits offset = number_of (2 ^ 64) words / 2 ^ (bits * offset) % 2 ^ bits
