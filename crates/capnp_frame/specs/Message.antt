-- Messages as lists of segments (src/message.rt).
-- In the encoding document's terms: a message is segments, a segment is words, and a word is 8 bytes.
use Rattle.std.specs.Prelude.{◌≡◌, ℕ, ◌/◌, ◌%◌, List, length, map, sum}

-- these bytes are whole words: their number is a multiple of 8
abbrev pub IsWholeWords : List ℕ → Type 0
IsWholeWords bytes = length bytes % 8 ≡ 0

-- how many words these bytes are
abbrev pub word_count : List ℕ → ℕ
word_count bytes = length bytes / 8

-- the length of each segment, in words
abbrev pub lengths : List (List ℕ) → List ℕ
lengths segments = map word_count segments

-- how many words a message has
abbrev pub size_in_words : List (List ℕ) → ℕ
size_in_words segments = sum (lengths segments)
