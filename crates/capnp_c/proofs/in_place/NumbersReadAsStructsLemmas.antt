-- A list of numbers is read as structs, each with its number as its data.
use Rattle.std.proofs.Common.{◌≡◌, ◌≢◌, ℕ, ◌+◌, ◌-◌, ◌*◌, ◌/◌, ◌%◌, ◌^◌, ◌<◌, ◌≤◌, List, [], ◌∷◌, ◌++◌, map, length, take, drop, slice_index_or, refl, sym, ap, ◌∙◌, subst, arith, zero-add, length-take, length-drop}
use Rattle.std.proofs.lemmas.List.{take_all, drop-drop, ext_get_or, length-map, get_or-map, get_or-drop}
use Rattle.std.proofs.lemmas.List.Elements.{All-from_get_or}
use Rattle.std.specs.Prelude.{All}
use Rattle.std.proofs.Math.Nat.{add-mul-div_left, add-mul-mod_self_left, div-eq_of_lt, mod-eq_of_lt}
use Rattle.std.specs.Simd.{first_chunks}
use Rattle.capnp_layout.specs.Prelude.{words_of, words_for, room_of, number_of, elements, elements_from, pointer_places, code_of, width}
use Rattle.capnp_layout.specs.declared.element_size.ElementSize.{ElementSize}
use Rattle.capnp_layout.specs.declared.element_size.ElementSize.TheVariants.{Void, Bit, Byte, TwoBytes, FourBytes, EightBytes}
use Rattle.capnp_layout.specs.declared.object.Body.TheVariants.{Numbers}
use Rattle.capnp_layout.proofs.words.DigitsToNumberAndBackLemmas.{number_below, pow-mul, length-digits}
use Rattle.capnp_layout.proofs.words.WordsOfBytesLemmas.{take-add, number-append}
use Rattle.capnp_wire.specs.Prelude.{Pointer, IsUpgradedStructs, number_struct, elements_without_data}
use Rattle.capnp_wire.proofs.views.UpgradedListReadAsStructsLemmas.{nothings_upgraded, numbers_upgraded, some_element}
use Rattle.capnp_c.specs.Entering.{Enters}
use Rattle.capnp_c.specs.Reading.{words_at}
use Rattle.capnp_c.specs.ReadingLists.{StructsWithin, word_from, number_at, numbers_along, data_along, pointers_along, structs_by}
use Rattle.capnp_c.specs.declared.reading.entered.Entered.{Entered}
use Rattle.capnp_c.specs.declared.reading.list.LinsjoarList.{LinsjoarList}
use Rattle.capnp_c.specs.declared.reading.place.LinsjoarPlace.{LinsjoarPlace}
use Rattle.capnp_c.proofs.in_place.ListElementsInBytesLemmas.{data_there, no_pointers_along, no_pointer_places, numbers_in_place, numbers_along_at, in_words, taken_below}
use Rattle.capnp_c.proofs.in_place.ListReadAsStructsLemmas.{list_as_structs}
use Rattle.capnp_c.proofs.in_place.StructElementByIndexLemmas.{length-data_along, data_along_at}

-- Numbers, each as the data of a struct

all_bytes : (bytes : List ℕ) → ((i : ℕ) → slice_index_or bytes i 0 < 256) → All (λ b. b < 256) bytes
all_bytes bytes fits = All-from_get_or (λ b. b < 256) bytes 0 (λ i less. fits i)

-- some of the eight bytes of a word
window : (bytes : List ℕ) (a len : ℕ) → ((i : ℕ) → slice_index_or bytes i 0 < 256) → 8 ≤ length bytes → a + len ≤ 8
    → number_of 256 (take 8 bytes) / 256 ^ a % 256 ^ len ≡ number_of 256 (take len (drop a bytes))
window bytes a len fits long within =
    let m = 8 - a - len in
    let rest = drop a bytes in
    let first = take a bytes in
    let mid = take len rest in
    let last = take m (drop len rest) in
    let split : 8 ≡ a + (len + m) = omega arith in
    let parts : take 8 bytes ≡ first ++ (mid ++ last) =
    ap (λ k. take k bytes) split ∙ take-add a (len + m) bytes ∙ ap (λ l. first ++ l) (take-add len m rest) in
    let first_long : length first ≡ a = omega (arith, length-take a bytes) in
    let mid_long : length mid ≡ len = omega (arith, length-take len rest, length-drop a bytes) in
    let tail = number_of 256 (mid ++ last) in
    let number_is : number_of 256 (take 8 bytes) ≡ number_of 256 first + 256 ^ a * tail =
    ap (number_of 256) parts ∙ number-append 256 first (mid ++ last) ∙ ap (λ k. number_of 256 first + 256 ^ k * tail) first_long in
    let tail_is : tail ≡ number_of 256 mid + 256 ^ len * number_of 256 last =
    number-append 256 mid last ∙ ap (λ k. number_of 256 mid + 256 ^ k * number_of 256 last) mid_long in
    let low : number_of 256 first < 256 ^ a = subst (λ k. number_of 256 first < 256 ^ k) first_long (number_below 256 first (all_bytes first (taken_below bytes a fits))) in
    let rest_fits : (i : ℕ) → slice_index_or rest i 0 < 256 = λ i. rw get_or-drop (fits (a + i)) in
    let mid_low : number_of 256 mid < 256 ^ len = subst (λ k. number_of 256 mid < 256 ^ k) mid_long (number_below 256 mid (all_bytes mid (taken_below rest len rest_fits))) in
    let some : 0 < 256 ^ a = omega (arith, low) in
    ap (λ x. x / 256 ^ a % 256 ^ len) number_is
    ∙ ap (λ x. x % 256 ^ len) (add-mul-div_left (number_of 256 first) tail some ∙ ap (λ x. x + tail) (div-eq_of_lt low) ∙ zero-add tail ∙ tail_is)
    ∙ add-mul-mod_self_left (number_of 256 mid) (256 ^ len) (number_of 256 last)
    ∙ mod-eq_of_lt mid_low

one_word : (bytes : List ℕ) (at len : ℕ) → 0 < len → len ≤ 8 → words_at bytes at len ≡ number_of 256 (take len (drop at bytes)) ∷ []
one_word bytes at len some few =
    let own = take len (drop at bytes) in
    let one : (len + 7) / 8 ≡ 1 = omega arith in
    ap (λ k. map (number_of 256) (first_chunks 8 k own)) one
    ∙ ap (λ l. number_of 256 l ∷ []) (take_all 8 own (omega (arith, length-take len (drop at bytes))))

-- a number of `len` bytes in a list of such numbers
number_bytes : (bytes : List ℕ) (start len i : ℕ) → ((i : ℕ) → slice_index_or bytes i 0 < 256) → i * len % 8 + len ≤ 8 → start + 8 * (i * len / 8) + 8 ≤ length bytes
    → word_from bytes (start + 8 * (i * (8 * len) / 64)) / 2 ^ (i * (8 * len) % 64) % 2 ^ (8 * len) ≡ number_of 256 (take len (drop (start + i * len) bytes))
number_bytes bytes start len i fits within inside =
    let t = i * len in
    let q = t / 8 in
    let a = t % 8 in
    let at = start + 8 * q in
    let xs = drop at bytes in
    let words : i * (8 * len) / 64 ≡ q = omega arith in
    let bits : i * (8 * len) % 64 ≡ 8 * a = omega arith in
    let whole : at + a ≡ start + t = omega arith in
    let xs_fit : (j : ℕ) → slice_index_or xs j 0 < 256 = λ j. rw get_or-drop (fits (at + j)) in
    ap (λ k. word_from bytes (start + 8 * k) / 2 ^ (i * (8 * len) % 64) % 2 ^ (8 * len)) words
    ∙ ap (λ k. word_from bytes at / 2 ^ k % 2 ^ (8 * len)) bits
    ∙ ap (λ k. word_from bytes at / k % 2 ^ (8 * len)) (pow-mul 2 8 a)
    ∙ ap (λ k. word_from bytes at / 256 ^ a % k) (pow-mul 2 8 len)
    ∙ window xs a len xs_fit (omega (arith, inside, length-drop at bytes)) within
    ∙ ap (λ l. number_of 256 (take len l)) (drop-drop a at bytes)
    ∙ ap (λ k. number_of 256 (take len (drop k bytes))) whole

-- the word that has the first byte of such a number lies within the bytes
number_word_within : (p : Pointer) (bytes : List ℕ) (entered : Entered) (size : ElementSize) (n len i : ℕ) → Enters p bytes entered
    → entered.object.body ≡ Numbers size n → width (code_of size) ≡ 8 * len → 0 < len → i < n → entered.start + 8 * (i * len / 8) + 8 ≤ length bytes
number_word_within p bytes entered size n len i enters body wide some less =
    let w = width (code_of size) in
    let room : room_of entered.object.body ≡ words_for n w = ap room_of body in
    let at = in_words i w n less (omega (arith, wide, some)) in
    let place : i * len / 8 ≡ w * i / 64 = omega (arith, ap (λ k. k * i) wide) in
    omega (arith, place, at, room, enters.within)

numbers_data : (p : Pointer) (bytes : List ℕ) (entered : Entered) (size : ElementSize) (n len : ℕ) → Enters p bytes entered
    → entered.object.body ≡ Numbers size n → ((i : ℕ) → slice_index_or bytes i 0 < 256) → width (code_of size) ≡ 8 * len → 0 < len → len ≤ 8 → 0 < code_of size
    → ((i : ℕ) → i * len % 8 + len ≤ 8)
    → data_along bytes entered.start len len n ≡ map (number_struct (code_of size)) (elements (words_of entered.object.segment.now) entered.object.start.word (code_of size) n)
numbers_data p bytes entered size n len enters body fits wide some few coded within =
    let c = code_of size in
    let w = width c in
    let start = entered.start in
    let values = elements (words_of entered.object.segment.now) entered.object.start.word c n in
    let along = numbers_along bytes start 0 w c n in
    let same : along ≡ values = numbers_in_place p bytes entered size n enters body fits in
    let many : length values ≡ n = length-digits (2 ^ w) n _ in
    let long = length-data_along bytes start len len n in
    ext_get_or [] (data_along bytes start len len n) (map (number_struct c) values) (long ∙ sym (length-map values (number_struct c) ∙ many))
    (λ i inside.
    let less : i < n = omega (arith, inside, long) in
    let turned : 0 + i * w ≡ i * (8 * len) = ap (λ k. 0 + i * k) wide ∙ omega arith in
    let own : slice_index_or values i 0 ≡ number_of 256 (take len (drop (start + i * len) bytes)) =
    ap (λ l. slice_index_or l i 0) (sym same) ∙ numbers_along_at bytes start 0 w c n i less ∙ ap (λ b. number_at bytes start b c) turned
    ∙ ap (λ k. word_from bytes (start + 8 * (i * (8 * len) / 64)) / 2 ^ (i * (8 * len) % 64) % 2 ^ k) wide
    ∙ number_bytes bytes start len i fits (within i) (number_word_within p bytes entered size n len i enters body wide some less) in
    data_along_at bytes start len len n i less
    ∙ one_word bytes (start + i * len) len some few
    ∙ ap (λ x. x ∷ []) (sym own)
    ∙ sym (some_element c (slice_index_or values i 0) coded)
    ∙ sym (get_or-map (number_struct c) values i 0 [] (omega (arith, less, many))))

module _ (p : Pointer) (bytes : List ℕ) (entered : Entered) (n : ℕ) (first : LinsjoarPlace) (list : LinsjoarList) (enters : Enters p bytes entered)
    (first_is : first ≡ record { word = 0; segment = 0; nesting = entered.nesting; is_there = 0 }) where
  abbrev stepped : ℕ → LinsjoarList
  stepped bits = record { start = entered.start; first = first; count = n; step = bits; data_len = bits / 8; pointers = 0; code = 0 }

  nesting_is : first.nesting ≡ p.nesting - 1
  nesting_is = ap (λ (f : LinsjoarPlace). f.nesting) first_is ∙ enters.nesting

  nothings : entered.object.body ≡ Numbers Void n
      → list ≡ record { start = entered.start; first = first; count = n; step = 0; data_len = 0; pointers = 0; code = 0 }
      → IsUpgradedStructs p (structs_by p.message p.limit bytes list) × StructsWithin list bytes
  nothings body is =
      let w = entered.object.start.word in
      let plain : LinsjoarList = record { start = entered.start; first = first; count = n; step = 0; data_len = 0; pointers = 0; code = 0 } in
      let begin : entered.start ≡ entered.start + 8 * 0 = omega arith in
      let words_are : data_along bytes entered.start 0 0 n ≡ elements_from (words_of entered.object.segment.now) (w + 0) 0 0 n =
      ap (λ k. data_along bytes k 0 0 n) begin ∙ data_there p bytes entered 0 0 n 0 enters (omega arith) in
      let children : pointers_along first.segment first.word 0 0 n ≡ pointer_places entered.object.start.segment (w + 0) 0 0 n =
      no_pointers_along first.segment first.word 0 n ∙ sym (no_pointer_places entered.object.start.segment (w + 0) n) in
      let within : StructsWithin list bytes = subst (λ l. StructsWithin l bytes) (sym is) (λ i less. omega (arith, enters.within)) in
      let read = nothings_upgraded p entered.object n (elements_without_data 0 n) (structs_by p.message p.limit bytes list) enters.object body refl
      (ap (structs_by p.message p.limit bytes) is ∙ list_as_structs p.message p.limit bytes plain _ 0 _ (p.nesting - 1) words_are refl children nesting_is) in
      (read, within)

  some_numbers : (size : ElementSize) (len : ℕ) → entered.object.body ≡ Numbers size n → ((i : ℕ) → slice_index_or bytes i 0 < 256)
      → code_of size ≢ 1 → width (code_of size) ≡ 8 * len → 0 < len → len ≤ 8 → 0 < code_of size → ((i : ℕ) → i * len % 8 + len ≤ 8)
      → list ≡ record { start = entered.start; first = first; count = n; step = 8 * len; data_len = len; pointers = 0; code = 0 }
      → IsUpgradedStructs p (structs_by p.message p.limit bytes list) × StructsWithin list bytes
  some_numbers size len body fits no_bits wide some few coded within is =
      let values = elements (words_of entered.object.segment.now) entered.object.start.word (code_of size) n in
      let plain : LinsjoarList = record { start = entered.start; first = first; count = n; step = 8 * len; data_len = len; pointers = 0; code = 0 } in
      let in_bytes : 8 * len / 8 ≡ len = omega arith in
      let words_are : data_along bytes entered.start (8 * len / 8) len n ≡ map (number_struct (code_of size)) values =
      ap (λ k. data_along bytes entered.start k len n) in_bytes ∙ numbers_data p bytes entered size n len enters body fits wide some few coded within in
      let inside : StructsWithin list bytes = subst (λ l. StructsWithin l bytes) (sym is)
      (λ i less.
      let turned : i * (8 * len / 8) ≡ i * len = ap (λ k. i * k) in_bytes in
      let whole = number_word_within p bytes entered size n len i enters body wide some less in
      omega (arith, turned, whole, within i)) in
      let read = numbers_upgraded p entered.object size n values (structs_by p.message p.limit bytes list) enters.object body no_bits refl
      (ap (structs_by p.message p.limit bytes) is
      ∙ list_as_structs p.message p.limit bytes plain _ 0 _ (p.nesting - 1) words_are refl (no_pointers_along first.segment first.word (8 * len / 64) n) nesting_is) in
      (read, inside)

  pub numbers_as_structs : (size : ElementSize) (bits : ℕ) → entered.object.body ≡ Numbers size n → ((i : ℕ) → slice_index_or bytes i 0 < 256)
      → bits ≡ width (code_of size) → bits ≢ 1
      → list ≡ record { start = entered.start; first = first; count = n; step = bits; data_len = bits / 8; pointers = 0; code = 0 }
      → IsUpgradedStructs p (structs_by p.message p.limit bytes list) × StructsWithin list bytes
  numbers_as_structs Void bits body fits wide more is = nothings body (is ∙ ap (λ (b : ℕ). stepped b) wide)
  numbers_as_structs Bit bits body fits wide more is = absurd (more wide)
  numbers_as_structs Byte bits body fits wide more is =
      some_numbers Byte 1 body fits (λ (same : 2 ≡ 1). absurd (omega (arith, same))) refl (omega arith) (omega arith) (omega arith) (λ i. omega arith)
      (is ∙ ap (λ (b : ℕ). stepped b) wide)
  numbers_as_structs TwoBytes bits body fits wide more is =
      some_numbers TwoBytes 2 body fits (λ (same : 3 ≡ 1). absurd (omega (arith, same))) refl (omega arith) (omega arith) (omega arith) (λ i. omega arith)
      (is ∙ ap (λ (b : ℕ). stepped b) wide)
  numbers_as_structs FourBytes bits body fits wide more is =
      some_numbers FourBytes 4 body fits (λ (same : 4 ≡ 1). absurd (omega (arith, same))) refl (omega arith) (omega arith) (omega arith) (λ i. omega arith)
      (is ∙ ap (λ (b : ℕ). stepped b) wide)
  numbers_as_structs EightBytes bits body fits wide more is =
      some_numbers EightBytes 8 body fits (λ (same : 5 ≡ 1). absurd (omega (arith, same))) refl (omega arith) (omega arith) (omega arith) (λ i. omega arith)
      (is ∙ ap (λ (b : ℕ). stepped b) wide)
