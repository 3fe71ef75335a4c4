-- Setting fields of data sections (src/data_section.rt). Encoding document, "Structs".
use Rattle.std.specs.Prelude.{ℕ, ◌+◌, ◌*◌, ◌/◌, ◌%◌, ◌^◌, List, length}
use Rattle.capnp_layout.specs.Prelude.{digits, number_of}

-- a number in which `width` bits are replaced, from this bit on
unfoldable pub with_bits : ℕ → ℕ → ℕ → ℕ → ℕ
with_bits number start width bits = number % 2 ^ start + 2 ^ start * (bits + 2 ^ width * (number / 2 ^ (start + width)))

-- Data words with a field of a given width replaced, at an offset in units of that width. As when a field is
-- read, the section is one number, the lowest word first.
unfoldable pub with_field : List ℕ → ℕ → ℕ → ℕ → List ℕ
with_field words width offset bits = digits (2 ^ 64) (length words) (with_bits (number_of (2 ^ 64) words) (width * offset) width bits)
