-- Numbers and bools by their bits, and how they are shown (src/stringify/numbers.rt).
use Rattle.std.specs.Prelude.{◌==◌, ℕ, ℤ, ◌%◌, ◌^◌, List, Option, Some, None, if◌then◌else◌, bit_xor, codes, decimal}
use Rattle.std.specs.Fmt.{signed_decimal}
use Rattle.std.specs.Int.{w8, w16, w32, w64, cast_signed}
use Rattle.capnp_wire.specs.Prelude.{field}
use Rattle.capnp.specs.declared.stringify.schema.Base.{Base}
use Rattle.capnp.specs.declared.stringify.schema.Base.TheVariants.{Bool as OfBool, Int8, Int16, Int32, Int64, Uint8, Uint16, Uint32, Uint64}
use Rattle.capnp.specs.declared.stringify.schema.Base.TheVariants.{Float32, Float64, Enum}

-- The bits of a field of the data section at an offset in units of its width, each changed where the default has a one; 0 for what
-- is not in the data section. Encoding document, "Structs".
abbrev pub stored_bits : List ℕ → Base → ℕ → ℕ → ℕ
stored_bits words OfBool offset default =
    if bit_xor (field words 1 offset) (if default % 2 == 1 then 1 else 0) == 1 then 1 else 0
stored_bits words Int8 offset default = bit_xor (field words 8 offset) (default % 2 ^ 8)
stored_bits words Uint8 offset default = bit_xor (field words 8 offset) (default % 2 ^ 8)
stored_bits words Int16 offset default = bit_xor (field words 16 offset) (default % 2 ^ 16)
stored_bits words Uint16 offset default = bit_xor (field words 16 offset) (default % 2 ^ 16)
stored_bits words (Enum number) offset default = bit_xor (field words 16 offset) (default % 2 ^ 16)
stored_bits words Int32 offset default = bit_xor (field words 32 offset) (default % 2 ^ 32)
stored_bits words Uint32 offset default = bit_xor (field words 32 offset) (default % 2 ^ 32)
stored_bits words Float32 offset default = bit_xor (field words 32 offset) (default % 2 ^ 32)
stored_bits words Int64 offset default = bit_xor (field words 64 offset) default
stored_bits words Uint64 offset default = bit_xor (field words 64 offset) default
stored_bits words Float64 offset default = bit_xor (field words 64 offset) default
stored_bits words base offset default = 0

-- the number with a sign that some bits are
abbrev pub signed_of : Base → ℕ → ℤ
signed_of Int8 bits = cast_signed w8 (bits % 2 ^ 8)
signed_of Int16 bits = cast_signed w16 (bits % 2 ^ 16)
signed_of Int32 bits = cast_signed w32 (bits % 2 ^ 32)
signed_of base bits = cast_signed w64 bits

-- The text of a number or a bool; of a float and of an enumerant it is left open.
abbrev pub shown_bits : Base → ℕ → Option (List ℕ)
shown_bits OfBool bits = Some (if bits == 0 then codes "false" else codes "true")
shown_bits Uint8 bits = Some (decimal bits)
shown_bits Uint16 bits = Some (decimal bits)
shown_bits Uint32 bits = Some (decimal bits)
shown_bits Uint64 bits = Some (decimal bits)
shown_bits Int8 bits = Some (signed_decimal (signed_of Int8 bits))
shown_bits Int16 bits = Some (signed_decimal (signed_of Int16 bits))
shown_bits Int32 bits = Some (signed_decimal (signed_of Int32 bits))
shown_bits Int64 bits = Some (signed_decimal (signed_of Int64 bits))
shown_bits Float32 bits = None
shown_bits Float64 bits = None
shown_bits (Enum number) bits = None
shown_bits base bits = Some (codes "void")
