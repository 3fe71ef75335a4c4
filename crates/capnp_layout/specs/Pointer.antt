-- Words, and the fields of a pointer word (src/pointer.rt). A word is a number below 2 ^ 64.
-- Fields are listed from the lowest bits on, as in the drawings of the encoding document.
use Rattle.std.specs.Prelude.{ℕ, zero, suc, ◌+◌, ◌*◌, ◌/◌, ◌%◌, ◌^◌, List, [], ◌∷◌, length, map, take, drop}
use Rattle.std.specs.Simd.{first_chunks}

-- the n lowest digits of a number, lowest first
abbrev pub digits : ℕ → ℕ → ℕ → List ℕ
digits base zero number = []
digits base (suc n) number = number % base ∷ digits base n (number / base)

-- the number that some digits make, lowest first
abbrev pub number_of : ℕ → List ℕ → ℕ
number_of base [] = 0
number_of base (digit ∷ rest) = digit + base * number_of base rest

-- the whole words of some bytes, little endian; further bytes are not read
abbrev pub words_of : List ℕ → List ℕ
words_of bytes = map (number_of 256) (first_chunks 8 (length bytes / 8) bytes)

-- n words from a start on
abbrev pub words_from : List ℕ → ℕ → ℕ → List ℕ
words_from words start n = take n (drop start words)

-- 0 for a struct, 1 for a list, 2 for a far pointer, 3 for a capability and others
abbrev pub pointer_kind : ℕ → ℕ
pointer_kind word = word % 4

-- the 30 bits of the offset, unsigned
abbrev pub offset : ℕ → ℕ
offset word = word / 4 % 2 ^ 30

-- of a struct pointer: its words of data, its words of pointers
abbrev pub data_words : ℕ → ℕ
data_words word = word / 2 ^ 32 % 2 ^ 16

abbrev pub pointer_words : ℕ → ℕ
pointer_words word = word / 2 ^ 48

-- of a list pointer: the code of its elements, and how many there are (for code 7: how many words)
abbrev pub code : ℕ → ℕ
code word = word / 2 ^ 32 % 8

abbrev pub list_count : ℕ → ℕ
list_count word = word / 2 ^ 35

-- of a far pointer: 1 where its landing pad has two words, and where the landing pad is
abbrev pub has_wide_landing_pad : ℕ → ℕ
has_wide_landing_pad word = word / 4 % 2

abbrev pub landing_pad_position : ℕ → ℕ
landing_pad_position word = word / 8 % 2 ^ 29

abbrev pub landing_pad_segment : ℕ → ℕ
landing_pad_segment word = word / 2 ^ 32
