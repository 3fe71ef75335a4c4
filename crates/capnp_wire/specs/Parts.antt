-- The data words of structs that are elements of a list of numbers (src/any_struct/part.rt).
-- Encoding document, "Lists".
use Rattle.std.specs.Prelude.{ℕ, ◌*◌, ◌/◌, ◌%◌, ◌^◌, List, map, Option, Some, None}
use Rattle.capnp_layout.specs.Prelude.{code_of, width}
use Rattle.capnp_wire.specs.declared.any_struct.part.WordPart.{WordPart}

-- a word, or the number that is one of its parts
abbrev pub own_part : Option WordPart → ℕ → ℕ
own_part None word = word
own_part (Some part) word = word / 2 ^ (width (code_of part.size) * part.index % 64) % 2 ^ width (code_of part.size)

-- the data words of a struct, by the words in which they are
abbrev pub own_data : Option WordPart → List ℕ → List ℕ
own_data None words = words
own_data (Some part) words = map (own_part (Some part)) words
