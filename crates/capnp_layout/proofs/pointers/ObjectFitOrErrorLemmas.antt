-- An object for which its segment has room is where its pointer says. One that lies outside, or whose tag is
-- wrong, is an error.
use Rattle.std.proofs.Common.{◌≡◌, ℕ, ◌+◌, ◌*◌, ◌/◌, ◌<◌, ◌≤◌, List, length, Some, None, slice_get, refl, sym, ◌∙◌, ap, subst, arith}
use Rattle.std.proofs.lemmas.Option.{slice_get-get_or}
use Rattle.capnp_frame.specs.declared.error.ErrorKind.{ErrorKind}
use Rattle.capnp_frame.specs.declared.error.ErrorKind.TheVariants.{PointerOutOfBounds, WrongPointerKind}
use Rattle.capnp_layout.specs.Prelude.{words_of, pointer_kind, code, offset, data_words, pointer_words, list_count, width, words_for, ShapeIsAt, a_struct, some_numbers, some_pointers, some_structs, struct_shape, numbers_shape, pointers_shape, structs_shape, SizeError, struct_outside, list_outside, structs_outside, odd_tag, many_elements}
use Rattle.capnp_layout.specs.declared.place.Place.{Place}
use Rattle.capnp_layout.proofs.words.WordsOfBytesLemmas.{length-words_of}
use Rattle.capnp_layout.proofs.pointers.ErrorExcludesObjectLemmas.{words_for_pointers}

pub struct_is_at : (bytes : List ℕ) (place : Place) (tag d p : ℕ) → pointer_kind tag ≡ 0 → d ≡ data_words tag → p ≡ pointer_words tag
    → place.word + (d + p) ≤ length bytes / 8 → ShapeIsAt (words_of bytes) place tag (struct_shape (words_of bytes) place d p)
struct_is_at bytes place tag d p k e f room =
    let words = words_of bytes in
    let within : place.word + data_words tag + pointer_words tag ≤ length words = omega (arith, length-words_of bytes) in
    let is_at : ShapeIsAt words place tag (struct_shape words place (data_words tag) (pointer_words tag)) = a_struct k within in
    subst (λ (x : ℕ). ShapeIsAt words place tag (struct_shape words place x p)) (sym e)
    (subst (λ (x : ℕ). ShapeIsAt words place tag (struct_shape words place (data_words tag) x)) (sym f) is_at)

pub numbers_are_at : (bytes : List ℕ) (place : Place) (tag c n : ℕ) → pointer_kind tag ≡ 1 → code tag < 6 → c ≡ code tag → n ≡ list_count tag
    → place.word + words_for n (width c) ≤ length bytes / 8 → ShapeIsAt (words_of bytes) place tag (numbers_shape (words_of bytes) place c n)
numbers_are_at bytes place tag c n k few e f room =
    let words = words_of bytes in
    let size : words_for n (width c) ≡ words_for (list_count tag) (width (code tag)) =
    ap (λ (x : ℕ). words_for x (width c)) f ∙ ap (λ (x : ℕ). words_for (list_count tag) (width x)) e in
    let within : place.word + words_for (list_count tag) (width (code tag)) ≤ length words = omega (arith, length-words_of bytes, size, room) in
    let is_at : ShapeIsAt words place tag (numbers_shape words place (code tag) (list_count tag)) = some_numbers k few within in
    subst (λ (x : ℕ). ShapeIsAt words place tag (numbers_shape words place x n)) (sym e)
    (subst (λ (x : ℕ). ShapeIsAt words place tag (numbers_shape words place (code tag) x)) (sym f) is_at)

pub pointers_are_at : (bytes : List ℕ) (place : Place) (tag n : ℕ) → pointer_kind tag ≡ 1 → code tag ≡ 6 → n ≡ list_count tag
    → place.word + n ≤ length bytes / 8 → ShapeIsAt (words_of bytes) place tag (pointers_shape place n)
pointers_are_at bytes place tag n k six f room =
    let words = words_of bytes in
    let within : place.word + list_count tag ≤ length words = omega (arith, length-words_of bytes) in
    let is_at : ShapeIsAt words place tag (pointers_shape place (list_count tag)) = some_pointers k six within in
    subst (λ (x : ℕ). ShapeIsAt words place tag (pointers_shape place x)) (sym f) is_at

pub structs_are_at : (bytes : List ℕ) (place : Place) (pointer tag d p n size : ℕ) → pointer_kind pointer ≡ 1 → code pointer ≡ 7 → size ≡ list_count pointer
    → slice_get (words_of bytes) place.word ≡ Some tag → pointer_kind tag ≡ 0 → n ≡ offset tag → d ≡ data_words tag → p ≡ pointer_words tag
    → place.word + (1 + size) ≤ length bytes / 8 → n * (d + p) ≤ size
    → ShapeIsAt (words_of bytes) place pointer (structs_shape (words_of bytes) place d p n size)
structs_are_at bytes place pointer tag d p n size k seven size_is tag_is even n_is d_is p_is room few =
    let words = words_of bytes in
    let within : place.word + 1 + list_count pointer ≤ length words = omega (arith, length-words_of bytes) in
    let product : n * (d + p) ≡ offset tag * (data_words tag + pointer_words tag) =
    ap (λ (x : ℕ). x * (d + p)) n_is ∙ ap (λ (x : ℕ). offset tag * (x + p)) d_is ∙ ap (λ (x : ℕ). offset tag * (data_words tag + x)) p_is in
    let fewer : offset tag * (data_words tag + pointer_words tag) ≤ list_count pointer = omega (arith, product, few, size_is) in
    let is_at : ShapeIsAt words place pointer (structs_shape words place (data_words tag) (pointer_words tag) (offset tag) (list_count pointer)) =
    some_structs k seven within tag_is even fewer in
    subst (λ (x : ℕ). ShapeIsAt words place pointer (structs_shape words place x p n size)) (sym d_is)
    (subst (λ (x : ℕ). ShapeIsAt words place pointer (structs_shape words place (data_words tag) x n size)) (sym p_is)
    (subst (λ (x : ℕ). ShapeIsAt words place pointer (structs_shape words place (data_words tag) (pointer_words tag) x size)) (sym n_is)
    (subst (λ (x : ℕ). ShapeIsAt words place pointer (structs_shape words place (data_words tag) (pointer_words tag) (offset tag) x)) (sym size_is) is_at)))

-- and what does not
pub struct_misfits : (bytes : List ℕ) (start tag d p : ℕ) (kind : ErrorKind) → pointer_kind tag ≡ 0 → d ≡ data_words tag → p ≡ pointer_words tag
    → length bytes / 8 < start + (d + p) → kind ≡ PointerOutOfBounds → SizeError (words_of bytes) start tag kind
struct_misfits bytes start tag d p kind k e f past is =
    let outside : length (words_of bytes) < start + data_words tag + pointer_words tag = omega (arith, length-words_of bytes) in
    subst (SizeError (words_of bytes) start tag) (sym is) (struct_outside k outside)

pub list_misfits : (bytes : List ℕ) (start tag c n size : ℕ) (kind : ErrorKind) → pointer_kind tag ≡ 1 → code tag < 7 → c ≡ code tag → n ≡ list_count tag
    → size ≡ words_for n (width c) → length bytes / 8 < start + size → kind ≡ PointerOutOfBounds → SizeError (words_of bytes) start tag kind
list_misfits bytes start tag c n size kind k few e f size_is past is =
    let same : words_for n (width c) ≡ words_for (list_count tag) (width (code tag)) =
    ap (λ (x : ℕ). words_for x (width c)) f ∙ ap (λ (x : ℕ). words_for (list_count tag) (width x)) e in
    let outside : length (words_of bytes) < start + words_for (list_count tag) (width (code tag)) = omega (arith, length-words_of bytes, same, size_is, past) in
    subst (SizeError (words_of bytes) start tag) (sym is) (list_outside k few outside)

pub pointers_misfit : (bytes : List ℕ) (start tag n : ℕ) (kind : ErrorKind) → pointer_kind tag ≡ 1 → code tag ≡ 6 → n ≡ list_count tag
    → length bytes / 8 < start + n → kind ≡ PointerOutOfBounds → SizeError (words_of bytes) start tag kind
pointers_misfit bytes start tag n kind k six f past is =
    let few : code tag < 7 = omega arith in
    list_misfits bytes start tag 6 n n kind k few (sym six) f (sym (words_for_pointers n 6 refl)) past is

pub structs_misfit : (bytes : List ℕ) (start tag size : ℕ) (kind : ErrorKind) → pointer_kind tag ≡ 1 → code tag ≡ 7 → size ≡ list_count tag
    → length bytes / 8 < start + (1 + size) → kind ≡ PointerOutOfBounds → SizeError (words_of bytes) start tag kind
structs_misfit bytes start tag size kind k seven f past is =
    let outside : length (words_of bytes) < start + 1 + list_count tag = omega (arith, length-words_of bytes) in
    subst (SizeError (words_of bytes) start tag) (sym is) (structs_outside k seven outside)

get_within : (words : List ℕ) (i : ℕ) → i < length words → slice_get words i ≡ None → ⊥
get_within words i within none = let some = slice_get-get_or words i 0 within in cc

pub no_tag_misfits : (bytes : List ℕ) (start size : ℕ) → start + (1 + size) ≤ length bytes / 8 → slice_get (words_of bytes) start ≡ None → ⊥
no_tag_misfits bytes start size room none =
    let within : start < length (words_of bytes) = omega (arith, length-words_of bytes) in
    get_within (words_of bytes) start within none

pub odd_tag_misfits : (bytes : List ℕ) (start pointer tag size : ℕ) (kind : ErrorKind) → pointer_kind pointer ≡ 1 → code pointer ≡ 7 → size ≡ list_count pointer
    → start + (1 + size) ≤ length bytes / 8 → slice_get (words_of bytes) start ≡ Some tag → 0 < pointer_kind tag → kind ≡ WrongPointerKind
    → SizeError (words_of bytes) start pointer kind
odd_tag_misfits bytes start pointer tag size kind k seven f room tag_is odd is =
    let within : start + 1 + list_count pointer ≤ length (words_of bytes) = omega (arith, length-words_of bytes) in
    subst (SizeError (words_of bytes) start pointer) (sym is) (odd_tag k seven within tag_is odd)

pub many_elements_misfit : (bytes : List ℕ) (start pointer tag d p n size : ℕ) (kind : ErrorKind) → pointer_kind pointer ≡ 1 → code pointer ≡ 7 → size ≡ list_count pointer
    → start + (1 + size) ≤ length bytes / 8 → slice_get (words_of bytes) start ≡ Some tag → pointer_kind tag ≡ 0 → n ≡ offset tag → d ≡ data_words tag → p ≡ pointer_words tag
    → size < n * (d + p) → kind ≡ PointerOutOfBounds → SizeError (words_of bytes) start pointer kind
many_elements_misfit bytes start pointer tag d p n size kind k seven f room tag_is even n_is d_is p_is many is =
    let within : start + 1 + list_count pointer ≤ length (words_of bytes) = omega (arith, length-words_of bytes) in
    let product : n * (d + p) ≡ offset tag * (data_words tag + pointer_words tag) =
    ap (λ (x : ℕ). x * (d + p)) n_is ∙ ap (λ (x : ℕ). offset tag * (x + p)) d_is ∙ ap (λ (x : ℕ). offset tag * (data_words tag + x)) p_is in
    let more : list_count pointer < offset tag * (data_words tag + pointer_words tag) = omega (arith, product, many, f) in
    subst (SizeError (words_of bytes) start pointer) (sym is) (many_elements k seven within tag_is even more)
