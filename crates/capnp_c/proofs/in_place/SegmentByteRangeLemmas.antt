-- The bytes of each segment begin where its group and the table say, and an object of a segment lies among them.
use Rattle.std.proofs.Common.{◌≡◌, inl, inr, ℕ, ◌+◌, ◌-◌, ◌*◌, ◌/◌, ◌<◌, ◌≤◌, ◌^◌, Some, None, List, [], length, take, drop, sym, ap, ◌∙◌, arith, zero-add, length-take, length-drop}
use Rattle.std.proofs.lemmas.Bool.{cases_lt}
use Rattle.std.proofs.lemmas.List.{drop-drop, drop_all, drop-take, take-take}
use Rattle.std.proofs.lemmas.List.FromFn.{length-map-range_with_len, get_or-map-range_with_len}
use Rattle.std.proofs.lemmas.Option.{slice_get_past, slice_get-get_or}
use Rattle.std.specs.Prelude.{slice_get}
use Rattle.capnp_frame.specs.Prelude.{table_field, number}
use Rattle.capnp_frame.proofs.tables.TableDeclaredByFieldsLemmas.{number-table_field}
use Rattle.capnp_layout.specs.Prelude.{message_of, words_of, words_from}
use Rattle.capnp_layout.proofs.words.WordAtPlaceLemmas.{segment_is_there, no_segment_is_there}
use Rattle.capnp_layout.proofs.words.PutBytesAsWordsLemmas.{words_part}
use Rattle.capnp_layout.proofs.words.WordsOfBytesLemmas.{length-words_of}
use Rattle.capnp_c.specs.Segments.{start_of, segment_from, segments_from}

-- the segment at an index has as many words as its field says, or ends with the bytes
segment_at : (begins : List ℕ) (count : ℕ) (bytes : List ℕ) (id : ℕ) → id < count → slice_get (segments_from begins count bytes) id ≡ Some (segment_from begins count bytes id)
segment_at begins count bytes id less =
    let segment = segment_from begins count bytes in
    slice_get-get_or (segments_from begins count bytes) id [] (omega (arith, less, length-map-range_with_len segment 0 count))
    ∙ ap Some (get_or-map-range_with_len segment 0 count id id [] less (zero-add id))

pub segment_is : (begins : List ℕ) (count : ℕ) (bytes : List ℕ) (id words : ℕ) → id < count → words < 2 ^ 32
    → table_field words ≡ take 4 (drop (4 * (id + 1)) bytes)
    → slice_get (segments_from begins count bytes) id ≡ Some (take (8 * words) (drop (start_of begins count bytes id) bytes))
segment_is begins count bytes id words less fits read =
    segment_at begins count bytes id less
    ∙ ap (λ k. Some (take (8 * k) (drop (start_of begins count bytes id) bytes))) (number-table_field words (drop (4 * (id + 1)) bytes) fits read)

pub length-segments_from : (begins : List ℕ) (count : ℕ) (bytes : List ℕ) → length (segments_from begins count bytes) ≡ count
length-segments_from begins count bytes = length-map-range_with_len (segment_from begins count bytes) 0 count

pub no_segment : (begins : List ℕ) (count : ℕ) (bytes : List ℕ) (id : ℕ) → count ≤ id → slice_get (segments_from begins count bytes) id ≡ None
no_segment begins count bytes id past = slice_get_past (segments_from begins count bytes) id (omega (arith, length-segments_from begins count bytes))

-- What lies past the bytes is nothing, from wherever it is counted.
pub drop_after : (start further : ℕ) (bytes : List ℕ) → drop (length bytes - length (drop start bytes) + further) bytes ≡ drop further (drop start bytes)
drop_after start further bytes =
    let long = length-drop start bytes in
    elim (cases_lt start (length bytes)) [
      | inl inside ↦ ap (λ k. drop k bytes) (omega arith) ∙ sym (drop-drop further start bytes)
      | inr past ↦ drop_all (length bytes - length (drop start bytes) + further) bytes (omega arith)
          ∙ sym (drop-drop further start bytes ∙ drop_all (start + further) bytes (omega arith))
    ]

-- an object of a segment of these words is among the bytes from the segment on
pub record LiesAmong (begins : List ℕ) (count : ℕ) (bytes segment : List ℕ) (id word room : ℕ) : Type 0 where
  pub below : id < count
  pub within : 8 * word + 8 * room ≤ length (drop (start_of begins count bytes id) bytes)
  pub words : words_from (words_of segment) word room ≡ words_of (take (8 * room) (drop (8 * word) (drop (start_of begins count bytes id) bytes)))

there_below : (begins : List ℕ) (count : ℕ) (bytes segment : List ℕ) (id : ℕ) → slice_get (message_of (segments_from begins count bytes)) id ≡ Some (words_of segment) → id < count
there_below begins count bytes segment id content = elim (cases_lt id count) [
  | inl below ↦ below
  | inr past ↦ (let none = no_segment_is_there (segments_from begins count bytes) id (no_segment begins count bytes id past) in absurd (cc))
]

pub lies_among : (begins : List ℕ) (count : ℕ) (bytes segment : List ℕ) (id word room : ℕ) → slice_get (message_of (segments_from begins count bytes)) id ≡ Some (words_of segment)
    → word + room ≤ length segment / 8 → LiesAmong begins count bytes segment id word room
lies_among begins count bytes segment id word room content inside =
    let below = there_below begins count bytes segment id content in
    let rest = drop (start_of begins count bytes id) bytes in
    let long = 8 * number (drop (4 * (id + 1)) bytes) in
    let own = take long rest in
    let there : slice_get (message_of (segments_from begins count bytes)) id ≡ Some (words_of own) =
    segment_is_there (segments_from begins count bytes) id own (segment_at begins count bytes id below) in
    let same : words_of segment ≡ words_of own = cc in
    let lengths : length (words_of segment) ≡ length (words_of own) = ap length same in
    let fits : word + room ≤ length own / 8 = omega (arith, lengths, length-words_of segment, length-words_of own) in
    let cut : length own ≤ length rest = omega (arith, length-take long rest) in
    let limit : 8 * (word + room) ≤ long = omega (arith, length-take long rest) in
    let part : words_of (take (8 * room) (drop (8 * word) own)) ≡ words_from (words_of own) word room = words_part word room own fits in
    let left = long - 8 * word in
    let sum : 8 * word + left ≡ long = omega arith in
    let dropped : drop (8 * word) own ≡ take left (drop (8 * word) rest) = ap (λ k. drop (8 * word) (take k rest)) (sym sum) ∙ drop-take (8 * word) left rest in
    let taken : take (8 * room) (drop (8 * word) own) ≡ take (8 * room) (drop (8 * word) rest) =
    ap (take (8 * room)) dropped ∙ take-take (8 * room) left (drop (8 * word) rest) (omega arith) in
    record {
      below = below;
      within = omega arith;
      words = ap (λ l. words_from l word room) same ∙ sym part ∙ ap words_of taken;
    }
