-- Blocks of words while objects are written into them (src/block.rt, src/layout/copy.rt).
use Rattle.std.specs.Prelude.{ℕ, zero, suc, ◌+◌, ◌-◌, max, List, [], ◌∷◌, ◌++◌, length, map, take, drop}
use Rattle.capnp_layout.specs.Tree.{Trees, none, tree, count, object_size, total_words}
use Rattle.capnp_layout.specs.Layout.{pointer, body}
use Rattle.capnp_layout.specs.Trim.{cut_zeros}
use Rattle.capnp_frame.specs.Prelude.{bytes_of}
use Rattle.capnp_frame.specs.declared.words.Word.{Word}
use Rattle.capnp_layout.specs.Pointer.{number_of, words_from}

-- words as numbers, little endian
abbrev pub word_numbers : List Word → List ℕ
word_numbers words = map (λ word. number_of 256 (bytes_of word)) words

-- the words of the block from this one on are replaced
abbrev pub put : ℕ → List ℕ → List ℕ → List ℕ
put at words block = take at block ++ (words ++ drop (at + length words) block)

-- the data sections of structs, each in front of its p pointers
abbrev pub put_data_sections : ℕ → ℕ → List (List ℕ) → List ℕ → List ℕ
put_data_sections at p [] block = block
put_data_sections at p (element ∷ elements) block = put_data_sections (at + length element + p) p elements (put at element block)

-- pointers in their slots, and what they point to, one after the other from a word on
abbrev pub fill : List ℕ → ℕ → Trees → List ℕ → List ℕ
fill slots next none block = block
fill [] next (tree form children rest) block = block
fill (slot ∷ slots) next (tree form children rest) block =
    fill slots (next + object_size form (count children) + total_words children) rest
    (put slot (pointer form (count children) (next - (slot + 1)) ∷ []) (put next (body (tree form children none)) block))

-- the slots of an object that begins at a word of the block
abbrev pub moved : ℕ → List ℕ → List ℕ
moved base [] = []
moved base (slot ∷ slots) = (base + slot) ∷ moved base slots

-- the most words that one of n parts of k words needs without the zeros at its end; a part begins
-- every `step` words
abbrev pub most_used : List ℕ → ℕ → ℕ → ℕ → ℕ → ℕ
most_used words start k step zero = 0
most_used words start k step (suc n) = max (length (cut_zeros (words_from words start k))) (most_used words (start + step) k step n)
