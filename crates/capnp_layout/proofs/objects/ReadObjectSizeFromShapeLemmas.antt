-- An object that is read has as many words as its shape says, by its form and its number of pointers.
use Rattle.std.proofs.Common.{◌≡◌, ℕ, zero, suc, ◌+◌, ◌*◌, ◌/◌, ◌≤◌, ◌^◌, List, length, refl, ap, arith, length-take, length-drop, drop}
use Rattle.capnp_layout.specs.Prelude.{digits, number_of, words_from, code_of, width, words_for, shape_of, room_of, words_in, object_size, elements_from}
use Rattle.capnp_layout.specs.declared.object.Body.{Body}
use Rattle.capnp_layout.specs.declared.object.Body.TheVariants.{Struct, Numbers, Pointers, Structs}
use Rattle.capnp_layout.specs.declared.place.Place.{Place}
use Rattle.capnp_layout.proofs.objects.SectionWordByIndexLemmas.{length-places}

count_of_elements : (words : List ℕ) (start d p n : ℕ) → n ≡ length (elements_from words start d p n)
count_of_elements words start d p zero = refl
count_of_elements words start d p (suc n) = ap (λ (k : ℕ). suc k) (count_of_elements words (start + d + p) d p n)

length-digits : (base n x : ℕ) → n ≡ length (digits base n x)
length-digits base zero x = refl
length-digits base (suc n) x = ap (λ (k : ℕ). suc k) (length-digits base n (x / base))

pub own_words_are : (words : List ℕ) (start : Place) (body : Body) → start.word + room_of body ≤ length words
    → words_in body ≡ object_size (shape_of words start body).form (length (shape_of words start body).children)
own_words_are words start (Struct size) room =
    let data_len : size.data_words ≡ length (words_from words start.word size.data_words) =
    omega (arith, length-take size.data_words (drop start.word words), length-drop start.word words) in
    omega (arith, data_len, length-places start.segment (start.word + size.data_words) size.pointers)
own_words_are words start (Numbers sizes n) room =
    ap (λ (k : ℕ). words_for k (width (code_of sizes)))
    (length-digits (2 ^ width (code_of sizes)) n (number_of (2 ^ 64) (words_from words start.word (words_for n (width (code_of sizes))))))
own_words_are words start (Pointers n) room = length-places start.segment start.word n
own_words_are words start (Structs e following) room =
    ap (λ (k : ℕ). 1 + k * (e.size.data_words + e.size.pointers)) (count_of_elements words (start.word + 1) e.size.data_words e.size.pointers e.count)
