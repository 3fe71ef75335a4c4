-- An element of a list of numbers is read as a struct of one data word, which is the number. Any other struct is
-- the one at its place.
use Rattle.std.proofs.lemmas.List.{length-map}
use Rattle.std.proofs.Math.Nat.{zero-div}
use Rattle.std.proofs.Common.{◌≡◌, ℕ, ◌+◌, ◌*◌, ◌/◌, ◌%◌, ◌^◌, ◌<◌, List, [], ◌∷◌, length, Option, Some, None, slice_index_or, refl, sym, ◌∙◌, ap, arith}
use Rattle.std.specs.Prelude.{All}
use Rattle.capnp_layout.specs.Prelude.{words_from, code_of, width, places}
use Rattle.capnp_wire.specs.Prelude.{own_part, own_data, fields_at, Struct}
use Rattle.capnp_wire.specs.declared.any_struct.part.WordPart.{WordPart}
use Rattle.capnp_layout.specs.declared.place.Place.{Place}
use Rattle.capnp_layout.specs.declared.pointer.StructSize.{StructSize}
use Rattle.capnp_layout.proofs.objects.NumberAsOneWordStructLemmas.{map_at, map_below, no_places, part_below, single}

-- a struct has as many data words as there are
pub length-own_data : (part : Option WordPart) (words : List ℕ) → length (own_data part words) ≡ length words
length-own_data None words = refl
length-own_data (Some part) words = length-map words (own_part (Some part))

-- each part of a word that is zero is zero
pub own_part_zero : (part : Option WordPart) → own_part part 0 ≡ 0
own_part_zero None = refl
own_part_zero (Some part) =
    let bits : ℕ = 2 ^ width (code_of part.size) in
    ap (λ (k : ℕ). k % bits) (zero-div (2 ^ (width (code_of part.size) * part.index % 64))) ∙ omega arith

-- its data words are the parts of these
pub own_data_at : (part : Option WordPart) (words : List ℕ) (i : ℕ) → slice_index_or (own_data part words) i 0 ≡ own_part part (slice_index_or words i 0)
own_data_at None words i = refl
own_data_at (Some part) words i = map_at (own_part (Some part)) (own_part_zero (Some part)) words i

pub own_data_below : (part : Option WordPart) (words : List ℕ) → All (λ w. w < 2 ^ 64) words → All (λ w. w < 2 ^ 64) (own_data part words)
own_data_below None words all = all
own_data_below (Some part) words all =
    map_below (own_part (Some part)) (λ word. part_below part.size (word / 2 ^ (width (code_of part.size) * part.index % 64))) words

-- a struct that is a number, as a value, is the struct of that word alone
pub alone : (m : List (List ℕ)) (words copied : List ℕ) (start there : Place) (size : StructSize) (part : Option WordPart) (nesting : ℕ) (limit : Option ℕ) (word : ℕ)
    → size.data_words ≡ 1 → size.pointers ≡ 0 → there.word ≡ 0 → length (words_from words start.word size.data_words) ≡ 1
    → word ≡ slice_index_or (own_data part (words_from words start.word size.data_words)) 0 0 → copied ≡ word ∷ []
    → fields_at m copied there size nesting limit ≡ record {
      message = m;
      words = own_data part (words_from words start.word size.data_words);
      children = places start.segment (start.word + size.data_words) size.pointers;
      nesting = nesting;
      limit = limit;
    }
alone m words copied start there size part nesting limit word one none first long word_is copied_is =
    let own = own_data part (words_from words start.word size.data_words) in
    let fields : List ℕ → List Place → Struct = λ element children. record { message = m; words = element; children = children; nesting = nesting; limit = limit } in
    let own_is : own ≡ word ∷ [] = single own (length-own_data part (words_from words start.word size.data_words) ∙ long) ∙ ap (λ (k : ℕ). k ∷ []) (sym word_is) in
    let copied_one : words_from copied there.word size.data_words ≡ word ∷ [] =
    ap (λ (k : ℕ). words_from copied k size.data_words) first ∙ ap (λ (k : ℕ). words_from copied 0 k) one ∙ ap (λ (l : List ℕ). words_from l 0 1) copied_is in
    ap (λ (element : List ℕ). fields element (places there.segment (there.word + size.data_words) size.pointers)) (copied_one ∙ sym own_is)
    ∙ ap (fields own) (no_places there.segment (there.word + size.data_words) start.segment (start.word + size.data_words) size.pointers none)

-- a struct that is no number is the struct at its place
pub whole : (m : List (List ℕ)) (words : List ℕ) (start : Place) (size : StructSize) (part : Option WordPart) (nesting : ℕ) (limit : Option ℕ) → part ≡ None
    → fields_at m words start size nesting limit ≡ record {
      message = m;
      words = own_data part (words_from words start.word size.data_words);
      children = places start.segment (start.word + size.data_words) size.pointers;
      nesting = nesting;
      limit = limit;
    }
whole m words start size part nesting limit is =
    let fields : List ℕ → Struct = λ element. record {
      message = m;
      words = element;
      children = places start.segment (start.word + size.data_words) size.pointers;
      nesting = nesting;
      limit = limit;
    } in
    ap (λ (o : Option WordPart). fields (own_data o (words_from words start.word size.data_words))) (sym is)
