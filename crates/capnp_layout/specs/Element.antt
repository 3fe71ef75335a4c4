-- The elements of lists (src/element_size.rt).
use Rattle.std.specs.Prelude.{ℕ, ◌+◌, ◌*◌, ◌/◌, [], ◌∷◌, slice_index}
use Rattle.capnp_layout.specs.declared.element_size.ElementSize.{ElementSize}
use Rattle.capnp_layout.specs.declared.element_size.ElementSize.TheVariants.{Void, Bit, Byte, TwoBytes, FourBytes, EightBytes}

-- the bits of an element of code 0 to 6: nothing, one bit, 1, 2, 4 or 8 bytes, a pointer
abbrev pub width : ℕ → ℕ
width code = slice_index (0 ∷ 1 ∷ 8 ∷ 16 ∷ 32 ∷ 64 ∷ 64 ∷ []) code

-- the words of n elements of this many bits each
abbrev pub words_for : ℕ → ℕ → ℕ
words_for n bits = (n * bits + 63) / 64

-- the code of the elements of a list of numbers
abbrev pub code_of : ElementSize → ℕ
code_of Void = 0
code_of Bit = 1
code_of Byte = 2
code_of TwoBytes = 3
code_of FourBytes = 4
code_of EightBytes = 5
