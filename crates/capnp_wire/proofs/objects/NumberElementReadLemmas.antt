-- An element of a list of numbers is some of the bits of one word, as it is read.
use Rattle.std.proofs.lemmas.List.{take_all}
use Rattle.std.proofs.Common.{◌≡◌, ℕ, ◌*◌, ◌/◌, ◌%◌, ◌^◌, ◌<◌, List, length, take, slice_index_or, sym, ◌∙◌, ap, arith}
use Rattle.capnp_layout.specs.Prelude.{words_of, code_of, width, words_for, elements}
use Rattle.capnp_layout.proofs.words.WordsOfBytesLemmas.{length-words_of}
use Rattle.capnp_wire.proofs.words.FieldAndElementAreBitsLemmas.{field_in_word, element_is_field}
use Rattle.capnp_wire.specs.Prelude.{field}
use Rattle.std.specs.Prelude.{All}
use Rattle.capnp_layout.specs.declared.element_size.ElementSize.{ElementSize}
use Rattle.capnp_layout.proofs.objects.NumberElementsInListWordsLemmas.{within_word}

-- an element is some of the bits of the word that it is in
pub element_read : (bytes : List ℕ) (size : ElementSize) (n i word value : ℕ) → All (λ w. w < 2 ^ 64) (words_of bytes) → length bytes ≡ 8 * words_for n (width (code_of size)) → i < n
    → word ≡ slice_index_or (words_of bytes) (width (code_of size) * i / 64) 0 → value ≡ word / 2 ^ (width (code_of size) * i % 64) % 2 ^ width (code_of size)
    → value ≡ slice_index_or (elements (words_of bytes) 0 (code_of size) n) i 0
element_read bytes size n i word value small long within word_is value_is =
    let w = width (code_of size) in
    let k = words_for n (width (code_of size)) in
    let all : take k (words_of bytes) ≡ words_of bytes = take_all k (words_of bytes) (omega (arith, length-words_of bytes, long)) in
    value_is
    ∙ ap (λ (x : ℕ). x / 2 ^ (w * i % 64) % 2 ^ w) word_is
    ∙ sym (field_in_word (words_of bytes) w i (w * i / 64) (w * i % 64) small (omega arith) (within_word size i))
    ∙ ap (λ (words : List ℕ). field words w i) (sym all)
    ∙ sym (element_is_field (take k (words_of bytes)) w n i within)
