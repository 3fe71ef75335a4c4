-- The groups of a packed encoding. Encoding document, "Packing".
use Rattle.std.specs.Prelude.{◌≡◌, ℕ, ◌/◌, ◌%◌, ◌<◌, List, [], ◌∷◌, ◌++◌, length, replicate, count_by, ◌==◌, if◌then◌else◌}
use Rattle.std.specs.List.{concat, AllByRecursion}

abbrev pub IsWord : List ℕ → Type 0
IsWord word = length word ≡ 8

abbrev pub zero_word : List ℕ
zero_word = replicate 8 0

-- how many bytes of a word are zero
abbrev pub zero_bytes : List ℕ → ℕ
zero_bytes word = count_by (λ byte. byte == 0) word

-- One step of a packed encoding.
pub data Group : Type 0 where
  -- a tag that marks some bytes of a word, and the word
  tagged : (tag : ℕ) (word : List ℕ) → Group
  -- tag 0: a zero word, and a given number of further ones
  zeros : (further : ℕ) → Group
  -- tag 255: a word and further ones, as they are
  literal : (word : List ℕ) (further : List (List ℕ)) → Group

-- the bytes whose bits of the tag, least significant first, are this bit
abbrev pub bytes_at : ℕ → ℕ → List ℕ → List ℕ
bytes_at bit tag [] = []
bytes_at bit tag (byte ∷ bytes) = (if tag % 2 == bit then byte ∷ [] else []) ++ bytes_at bit (tag / 2) bytes

abbrev pub marked : ℕ → List ℕ → List ℕ
marked tag word = bytes_at 1 tag word

abbrev pub unmarked : ℕ → List ℕ → List ℕ
unmarked tag word = bytes_at 0 tag word

abbrev pub AreZero : List ℕ → Type 0
AreZero bytes = AllByRecursion (λ byte. byte ≡ 0) bytes

-- a byte that isn't marked is zero; a marked one may be; a count is a byte
abbrev pub IsGroup : Group → Type 0
IsGroup (tagged tag word) = (0 < tag) × (tag < 255) × IsWord word × AreZero (unmarked tag word)
IsGroup (zeros further) = further < 256
IsGroup (literal word further) = IsWord word × AllByRecursion IsWord further × (length further < 256)

abbrev pub group_encoding : Group → List ℕ
group_encoding (tagged tag word) = tag ∷ marked tag word
group_encoding (zeros further) = 0 ∷ further ∷ []
group_encoding (literal word further) = 255 ∷ word ++ length further ∷ concat further

abbrev pub group_words : Group → List (List ℕ)
group_words (tagged tag word) = word ∷ []
group_words (zeros further) = zero_word ∷ replicate further zero_word
group_words (literal word further) = word ∷ further
