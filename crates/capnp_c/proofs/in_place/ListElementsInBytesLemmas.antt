-- The elements of a list are in the bytes at its start, each a step after the one before.
use Rattle.std.proofs.Common.{◌≡◌, inl, inr, ℕ, zero, suc, ◌+◌, ◌-◌, ◌*◌, ◌/◌, ◌%◌, ◌^◌, ◌<◌, ◌≤◌, List, [], ◌∷◌, ◌++◌, map, length, take, drop, slice_index_or, slice_get, Some, refl, sym, ap, ◌∙◌, lit<, arith, length-take, length-drop}
use Rattle.std.proofs.lemmas.Bool.{cases_lt}
use Rattle.std.proofs.lemmas.List.{take-take, drop-take, drop-drop, get_or-take, get_or-drop, get_or_past, ext_get_or, length-map}
use Rattle.std.proofs.Math.Nat.{mul-le-mul_left}
use Rattle.std.specs.Simd.{first_chunks}
use Rattle.capnp_layout.specs.Prelude.{words_of, words_from, words_for, room_of, words_in, number_of, digits, elements, elements_from, places, pointer_places, code_of, width}
use Rattle.capnp_layout.specs.declared.element_size.ElementSize.{ElementSize}
use Rattle.capnp_layout.specs.declared.object.Body.TheVariants.{Numbers, Structs}
use Rattle.capnp_layout.specs.declared.pointer.Elements.{Elements}
use Rattle.capnp_layout.proofs.objects.ByteListElementLemmas.{all_words_below}
use Rattle.capnp_layout.proofs.objects.NumberElementsInListWordsLemmas.{elements_within}
use Rattle.capnp_layout.proofs.words.PutBytesAsWordsLemmas.{words_part}
use Rattle.capnp_layout.proofs.words.DigitsToNumberAndBackLemmas.{length-digits}
use Rattle.capnp_layout.proofs.trees.ReadTreeSizesAndWordsBoundedLemmas.{length-elements_from}
use Rattle.capnp_wire.specs.Prelude.{Pointer, first_fields}
use Rattle.capnp_wire.proofs.objects.NumberElementReadLemmas.{element_read}
use Rattle.capnp_wire.proofs.views.UpgradedListReadAsNumbersLemmas.{first_field_read}
use Rattle.capnp_c.specs.Entering.{Enters}
use Rattle.capnp_c.specs.Reading.{words_at}
use Rattle.capnp_c.specs.ReadingLists.{word_from, number_at, numbers_along, data_along, pointers_along}
use Rattle.capnp_c.specs.declared.reading.entered.Entered.{Entered}
use Rattle.capnp_c.proofs.in_place.EnteredObjectReadLemmas.{words_there}

chunk_at : (k j : ℕ) (bytes : List ℕ) → j < k → slice_index_or (map (number_of 256) (first_chunks 8 k bytes)) j 0 ≡ number_of 256 (take 8 (drop (8 * j) bytes))
chunk_at zero j bytes less = absurd (omega arith)
chunk_at (suc k) zero bytes less = refl
chunk_at (suc k) (suc j) bytes less =
    let next : 8 + 8 * j ≡ 8 * suc j = omega arith in
    chunk_at k j (drop 8 bytes) (omega arith) ∙ ap (λ l. number_of 256 (take 8 l)) (drop-drop (8 * j) 8 bytes ∙ ap (λ n. drop n bytes) next)

-- the first of some bytes are bytes
pub taken_below : (bytes : List ℕ) (n : ℕ) → ((i : ℕ) → slice_index_or bytes i 0 < 256) → (i : ℕ) → slice_index_or (take n bytes) i 0 < 256
taken_below bytes n fits i = elim (cases_lt i n) [
  | inl less ↦ rw (get_or-take n bytes i 0 less) (fits i)
  | inr past ↦ rw (get_or_past (take n bytes) i 0 (omega (arith, length-take n bytes))) (lit< tt)
]

-- a word of an object is eight bytes of the message
pub word_there : (p : Pointer) (bytes : List ℕ) (entered : Entered) (j : ℕ) → Enters p bytes entered → j < room_of entered.object.body
    → slice_index_or (words_of entered.object.segment.now) (entered.object.start.word + j) 0 ≡ word_from bytes (entered.start + 8 * j)
word_there p bytes entered j enters less =
    let room = room_of entered.object.body in
    let words = words_of entered.object.segment.now in
    let rest = drop entered.start bytes in
    let inside : j < length rest / 8 = omega (arith, enters.within, length-drop entered.start bytes) in
    let same = words_there p bytes entered room enters (omega arith) in
    sym (get_or-drop entered.object.start.word words j 0)
    ∙ sym (get_or-take room (drop entered.object.start.word words) j 0 less)
    ∙ ap (λ l. slice_index_or l j 0) same
    ∙ get_or-take room (words_of rest) j 0 less
    ∙ chunk_at (length rest / 8) j rest inside
    ∙ ap (λ l. number_of 256 (take 8 l)) (drop-drop (8 * j) entered.start bytes)

part_of_front : (xs ys : List ℕ) (room j d : ℕ) → take room xs ≡ take room ys → j + d ≤ room → take d (drop j xs) ≡ take d (drop j ys)
part_of_front xs ys room j d same fits =
    let m = room - j in
    let split : j + m ≡ room = omega arith in
    let one = λ (zs : List ℕ). ap (λ k. take d (drop j (take k zs))) (sym split) ∙ ap (take d) (drop-take j m zs) ∙ take-take d m (drop j zs) (omega arith) in
    sym (one xs) ∙ ap (λ l. take d (drop j l)) same ∙ one ys

-- and so are some of its words
pub words_within : (p : Pointer) (bytes : List ℕ) (entered : Entered) (j d : ℕ) → Enters p bytes entered → j + d ≤ room_of entered.object.body
    → words_at bytes (entered.start + 8 * j) (8 * d) ≡ words_from (words_of entered.object.segment.now) (entered.object.start.word + j) d
words_within p bytes entered j d enters few =
    let room = room_of entered.object.body in
    let words = words_of entered.object.segment.now in
    let rest = drop entered.start bytes in
    let own = take (8 * d) (drop (8 * j) rest) in
    let inside : j + d ≤ length rest / 8 = omega (arith, enters.within, length-drop entered.start bytes) in
    let long : length own ≡ 8 * d = omega (arith, inside, length-take (8 * d) (drop (8 * j) rest), length-drop (8 * j) rest) in
    let count : (8 * d + 7) / 8 ≡ length own / 8 = omega (arith, long) in
    ap (λ l. map (number_of 256) (first_chunks 8 ((8 * d + 7) / 8) (take (8 * d) l))) (sym (drop-drop (8 * j) entered.start bytes))
    ∙ ap (λ k. map (number_of 256) (first_chunks 8 k own)) count
    ∙ words_part j d rest inside
    ∙ part_of_front (words_of rest) (drop entered.object.start.word words) room j d (sym (words_there p bytes entered room enters (omega arith))) few
    ∙ ap (take d) (drop-drop j entered.object.start.word words)

pub length-numbers_along : (bytes : List ℕ) (start bits step code n : ℕ) → length (numbers_along bytes start bits step code n) ≡ n
length-numbers_along bytes start bits step code zero = refl
length-numbers_along bytes start bits step code (suc n) = ap (λ (k : ℕ). suc k) (length-numbers_along bytes start (bits + step) step code n)

pub numbers_along_at : (bytes : List ℕ) (start bits step code n i : ℕ) → i < n
    → slice_index_or (numbers_along bytes start bits step code n) i 0 ≡ number_at bytes start (bits + i * step) code
numbers_along_at bytes start bits step code zero i less = absurd (omega arith)
numbers_along_at bytes start bits step code (suc n) zero less =
    let here : bits ≡ bits + 0 * step = omega arith in
    ap (λ b. number_at bytes start b code) here
numbers_along_at bytes start bits step code (suc n) (suc i) less =
    let next : bits + step + i * step ≡ bits + suc i * step = omega arith in
    numbers_along_at bytes start (bits + step) step code n i (omega arith) ∙ ap (λ b. number_at bytes start b code) next

-- no bits are of any word
no_bits : (w a b r s : ℕ) → w ≡ 0 → a / 2 ^ r % 2 ^ w ≡ b / 2 ^ s % 2 ^ w
no_bits w a b r s none =
    let one : (x : ℕ) → x % 2 ^ w ≡ 0 = λ x. rw none (omega arith) in
    one (a / 2 ^ r) ∙ sym (one (b / 2 ^ s))

-- the word of a number, by its index
pub in_words : (i w n : ℕ) → i < n → 0 < w → w * i / 64 < words_for n w
in_words i w n less some =
    let most : suc i ≤ n = omega arith in
    let ends = mul-le-mul_left w most in
    omega (arith, ends, less, some)

-- the numbers of a list
pub numbers_in_place : (p : Pointer) (bytes : List ℕ) (entered : Entered) (size : ElementSize) (n : ℕ) → Enters p bytes entered
    → entered.object.body ≡ Numbers size n → ((i : ℕ) → slice_index_or bytes i 0 < 256)
    → numbers_along bytes entered.start 0 (width (code_of size)) (code_of size) n ≡ elements (words_of entered.object.segment.now) entered.object.start.word (code_of size) n
numbers_in_place p bytes entered size n enters body fits =
    let c = code_of size in
    let w = width (code_of size) in
    let k = words_for n w in
    let words = words_of entered.object.segment.now in
    let rest = drop entered.start bytes in
    let own = take (8 * k) rest in
    let room : room_of entered.object.body ≡ k = ap room_of body in
    let inside : 0 + k ≤ length rest / 8 = omega (arith, room, enters.within, length-drop entered.start bytes) in
    let same = words_there p bytes entered k enters (omega (arith, room)) in
    let list : List ℕ → List ℕ = λ l. digits (2 ^ w) n (number_of (2 ^ 64) l) in
    let there : elements (words_of own) 0 c n ≡ elements words entered.object.start.word c n = elements_within rest 0 c n inside ∙ sym (ap list same) in
    let long : length own ≡ 8 * k = omega (arith, inside, length-take (8 * k) rest) in
    let below = all_words_below own (λ i. taken_below rest (8 * k) (λ j. rw get_or-drop (fits (entered.start + j))) i) in
    let along = numbers_along bytes entered.start 0 w c n in
    ext_get_or 0 along (elements words entered.object.start.word c n)
    (length-numbers_along bytes entered.start 0 w c n ∙ sym (length-digits (2 ^ w) n _))
    (λ i within.
    let less : i < n = omega (arith, within, length-numbers_along bytes entered.start 0 w c n) in
    let q = w * i / 64 in
    let word = slice_index_or (words_of own) q 0 in
    let value = word / 2 ^ (w * i % 64) % 2 ^ w in
    let turned : 0 + i * w ≡ w * i = omega arith in
    let is : number_at bytes entered.start (w * i) c ≡ value = elim (cases_lt 0 w) [
      | inl some ↦ (let at = in_words i w n less some in
          let mine : word ≡ word_from bytes (entered.start + 8 * q) =
          ap (λ l. slice_index_or l q 0) (words_part 0 k rest inside) ∙ get_or-take k (words_of rest) q 0 at
          ∙ chunk_at (length rest / 8) q rest (omega (arith, at, inside)) ∙ ap (λ l. number_of 256 (take 8 l)) (drop-drop (8 * q) entered.start bytes) in
          ap (λ x. x / 2 ^ (w * i % 64) % 2 ^ w) (sym mine))
      | inr none ↦ no_bits w (word_from bytes (entered.start + 8 * q)) word (w * i % 64) (w * i % 64) (omega arith)
    ] in
    numbers_along_at bytes entered.start 0 w c n i less
    ∙ ap (λ b. number_at bytes entered.start b c) turned
    ∙ is
    ∙ element_read own size n i word value below long less refl refl
    ∙ ap (λ l. slice_index_or l i 0) there)

-- the first fields of structs
pub fields_in_place : (p : Pointer) (bytes : List ℕ) (entered : Entered) (there : Elements) (following code : ℕ) → Enters p bytes entered
    → entered.object.body ≡ Structs there following → width code ≤ 64 * there.size.data_words
    → numbers_along bytes (entered.start + 8) 0 (64 * (there.size.data_words + there.size.pointers)) code there.count
    ≡ first_fields code (elements_from (words_of entered.object.segment.now) (entered.object.start.word + 1) there.size.data_words there.size.pointers there.count)
fields_in_place p bytes entered there following code enters body wide =
    let d = there.size.data_words in
    let q = there.size.pointers in
    let s = d + q in
    let n = there.count in
    let w = width code in
    let words = words_of entered.object.segment.now in
    let start = entered.object.start.word + 1 in
    let room : room_of entered.object.body ≡ 1 + following = ap room_of body in
    let used : words_in entered.object.body ≡ 1 + n * s = ap words_in body in
    let fields = first_fields code (elements_from words start d q n) in
    let many : length fields ≡ n = length-map (elements_from words start d q n) (λ element. slice_index_or element 0 0 % 2 ^ w) ∙ length-elements_from words start d q n in
    let along = numbers_along bytes (entered.start + 8) 0 (64 * s) code n in
    let long = length-numbers_along bytes (entered.start + 8) 0 (64 * s) code n in
    ext_get_or 0 along fields (long ∙ sym many)
    (λ i within.
    let less : i < n = omega (arith, within, long) in
    let bits = 0 + i * (64 * s) in
    let whole : bits / 64 ≡ i * s = omega arith in
    let aligned : bits % 64 ≡ 0 = omega arith in
    let none : w * 0 % 64 ≡ 0 = omega arith in
    let word = slice_index_or words (start + i * s) 0 in
    let value = word / 2 ^ (w * 0 % 64) % 2 ^ w in
    let is : number_at bytes (entered.start + 8) bits code ≡ value = elim (cases_lt 0 w) [
      | inl some ↦ (let most : suc i ≤ n = omega arith in
          let ends = mul-le-mul_left s most in
          let at : 1 + i * s < room_of entered.object.body = omega (arith, room, used, enters.object.object_is.elements, ends, wide, some) in
          let begin : entered.start + 8 + 8 * (i * s) ≡ entered.start + 8 * (1 + i * s) = omega arith in
          let place : entered.object.start.word + (1 + i * s) ≡ start + i * s = omega arith in
          let mine : word ≡ word_from bytes (entered.start + 8 * (1 + i * s)) =
          ap (λ k. slice_index_or words k 0) (sym place) ∙ word_there p bytes entered (1 + i * s) enters at in
          ap (λ k. word_from bytes (entered.start + 8 + 8 * k) / 2 ^ (bits % 64) % 2 ^ w) whole
          ∙ ap (λ k. word_from bytes (entered.start + 8 + 8 * (i * s)) / 2 ^ k % 2 ^ w) (aligned ∙ sym none)
          ∙ ap (λ k. word_from bytes k / 2 ^ (w * 0 % 64) % 2 ^ w) begin
          ∙ ap (λ x. x / 2 ^ (w * 0 % 64) % 2 ^ w) (sym mine))
      | inr zero_wide ↦ no_bits w (word_from bytes (entered.start + 8 + 8 * (bits / 64))) word (bits % 64) (w * 0 % 64) (omega arith)
    ] in
    numbers_along_at bytes (entered.start + 8) 0 (64 * s) code n i less
    ∙ is
    ∙ first_field_read words start d q n i s code word value (omega (arith, less, many)) refl wide refl refl)

-- the data of structs, and their pointers
pub data_there : (p : Pointer) (bytes : List ℕ) (entered : Entered) (d q n j : ℕ) → Enters p bytes entered → j + n * (d + q) ≤ room_of entered.object.body
    → data_along bytes (entered.start + 8 * j) (8 * (d + q)) (8 * d) n ≡ elements_from (words_of entered.object.segment.now) (entered.object.start.word + j) d q n
data_there p bytes entered d q zero j enters few = refl
data_there p bytes entered d q (suc n) j enters few =
    let words = words_of entered.object.segment.now in
    let w = entered.object.start.word in
    let more : suc n * (d + q) ≡ (d + q) + n * (d + q) = omega arith in
    let first = words_within p bytes entered j d enters (omega (arith, few, more)) in
    let next : entered.start + 8 * j + 8 * (d + q) ≡ entered.start + 8 * (j + (d + q)) = omega arith in
    let after : w + (j + (d + q)) ≡ w + j + d + q = omega arith in
    let others = data_there p bytes entered d q n (j + (d + q)) enters (omega (arith, few, more)) in
    ap (λ x. x ∷ data_along bytes (entered.start + 8 * j + 8 * (d + q)) (8 * (d + q)) (8 * d) n) first
    ∙ ap (λ l. words_from words (w + j) d ∷ l) (ap (λ k. data_along bytes k (8 * (d + q)) (8 * d) n) next ∙ others ∙ ap (λ k. elements_from words k d q n) after)

pub pointers_there : (segment start d q n : ℕ) → pointers_along segment (start + d) (d + q) q n ≡ pointer_places segment start d q n
pointers_there segment start d q zero = refl
pointers_there segment start d q (suc n) =
    let next : start + d + (d + q) ≡ start + d + q + d = omega arith in
    ap (λ l. places segment (start + d) q ++ l) (ap (λ k. pointers_along segment k (d + q) q n) next ∙ pointers_there segment (start + d + q) d q n)

pub no_pointers_along : (segment word step n : ℕ) → pointers_along segment word step 0 n ≡ []
no_pointers_along segment word step zero = refl
no_pointers_along segment word step (suc n) = no_pointers_along segment (word + step) step n

pub no_pointer_places : (segment start n : ℕ) → pointer_places segment start 0 0 n ≡ []
no_pointer_places segment start zero = refl
no_pointer_places segment start (suc n) = no_pointer_places segment (start + 0 + 0) n

-- a word of eight bytes
pub word_of_eight : (bytes : List ℕ) → length bytes ≡ 8 → slice_get (words_of bytes) 0 ≡ Some (number_of 256 (take 8 bytes))
word_of_eight bytes long =
    let one : length bytes / 8 ≡ 1 = omega (arith, long) in
    ap (λ k. slice_get (map (number_of 256) (first_chunks 8 k bytes)) 0) one
