-- Bytes that are written into a segment are there, and the words before them stay.
use Rattle.std.proofs.Common.{◌≡◌, ℕ, zero, suc, ◌+◌, ◌*◌, ◌/◌, ◌^◌, ◌<◌, ◌≤◌, List, [], ◌∷◌, ◌++◌, length, map, take, drop, Some, slice_get, slice_set, w64, refl, ap, sym, subst, ◌∙◌}
use Rattle.std.proofs.Common.{arith, suc-add, length-drop, length-set}
use Rattle.std.proofs.lemmas.List.{drop-drop, drop-take}
use Rattle.std.proofs.lemmas.Nat.{from_le_bytes-to_le_bytes_8}
use Rattle.std.specs.Int.{from_le_bytes, to_le_bytes}
use Rattle.std.specs.Simd.{first_chunks}
use Rattle.capnp_layout.specs.Prelude.{number_of, words_of, word_at, root}
use Rattle.capnp_layout.specs.declared.place.Place.{Place}
use Rattle.capnp_layout.proofs.words.WordAtPlaceLemmas.{word_is_in_message}
use Rattle.capnp_layout.proofs.words.WordsOfBytesLemmas.{number_of_eight}
use Rattle.capnp_build.specs.Prelude.{Space, written, with_bytes, used_of, space_at, message}
use Rattle.capnp_build.proofs.words.UsedBytesThenZerosLemmas.{written_length, written_used}

-- the eight bytes of a word
chunk_of : (k : ℕ) (bytes : List ℕ) (j : ℕ) → 8 * k ≤ length bytes → j < k
    → slice_get (map (number_of 256) (first_chunks 8 k bytes)) j ≡ Some (number_of 256 (take 8 (drop (8 * j) bytes)))
chunk_of zero bytes j room within = absurd (omega (arith, within))
chunk_of (suc k) bytes zero room within = refl
chunk_of (suc k) bytes (suc j) room within =
    chunk_of k (drop 8 bytes) j (omega (arith, room, length-drop 8 bytes)) (omega (arith, within))
    ∙ ap (λ (l : List ℕ). Some (number_of 256 (take 8 l))) (drop-drop (8 * j) 8 bytes ∙ ap (λ (n : ℕ). drop n bytes) (omega arith))

pub word_of_bytes : (bytes : List ℕ) (j : ℕ) → 8 * j + 8 ≤ length bytes → slice_get (words_of bytes) j ≡ Some (number_of 256 (take 8 (drop (8 * j) bytes)))
word_of_bytes bytes j room = chunk_of (length bytes / 8) bytes j (omega arith) (omega (arith, room))

pub used_at : (spaces : List Space) (i : ℕ) → i < length spaces → slice_get (map used_of spaces) i ≡ Some (space_at spaces i).used
used_at [] i within = absurd (omega (arith, within))
used_at (s ∷ spaces) zero within = refl
used_at (s ∷ spaces) (suc i) within = used_at spaces i (omega (arith, within))

pub used_word_there : (spaces : List Space) (place : Place) → place.segment < length spaces → 8 * place.word + 8 ≤ length (space_at spaces place.segment).used
    → word_at (message spaces) place ≡ Some (number_of 256 (take 8 (drop (8 * place.word) (space_at spaces place.segment).used)))
used_word_there spaces place within room =
    word_is_in_message (map used_of spaces) place (space_at spaces place.segment).used _ (used_at spaces place.segment within) (word_of_bytes (space_at spaces place.segment).used place.word room)

pub set_here : (spaces : List Space) (i : ℕ) (s : Space) → i < length spaces → space_at (slice_set spaces i s) i ≡ s
set_here [] i s within = absurd (omega (arith, within))
set_here (x ∷ spaces) zero s within = refl
set_here (x ∷ spaces) (suc i) s within = set_here spaces i s (omega (arith, within))

drop_front : (at : ℕ) (xs ys : List ℕ) → at ≤ length xs → drop at (take at xs ++ ys) ≡ ys
drop_front zero xs ys fits = refl
drop_front (suc at) [] ys fits = absurd (omega (arith, fits))
drop_front (suc at) (x ∷ xs) ys fits = drop_front at xs ys (omega (arith, fits))

take_front : (w ys : List ℕ) → take (length w) (w ++ ys) ≡ w
take_front [] ys = refl
take_front (x ∷ w) ys = ap (λ (l : List ℕ). x ∷ l) (take_front w ys)

pub part_here : (at : ℕ) (xs w : List ℕ) → at ≤ length xs → take (length w) (drop at (written xs at w)) ≡ w
part_here at xs w fits = ap (take (length w)) (drop_front at xs (w ++ drop (at + length w) xs) fits) ∙ take_front w (drop (at + length w) xs)

pub eight_here : (at : ℕ) (xs w : List ℕ) → at ≤ length xs → length w ≡ 8 → take 8 (drop at (written xs at w)) ≡ w
eight_here at xs w fits eight = subst (λ (n : ℕ). take n (drop at (written xs at w)) ≡ w) eight (part_here at xs w fits)

pub front_same : (n at : ℕ) (xs ys : List ℕ) → n ≤ at → at ≤ length xs → take n (take at xs ++ ys) ≡ take n xs
front_same zero at xs ys le fits = refl
front_same (suc n) zero xs ys le fits = absurd (omega (arith, le))
front_same (suc n) (suc at) [] ys le fits = absurd (omega (arith, fits))
front_same (suc n) (suc at) (x ∷ xs) ys le fits = ap (λ (l : List ℕ). x ∷ l) (front_same n at xs ys (omega (arith, le)) (omega (arith, fits)))

-- the eight bytes before what is written
pub eight_before : (p at : ℕ) (xs w : List ℕ) → p + 8 ≤ at → at ≤ length xs → take 8 (drop p (written xs at w)) ≡ take 8 (drop p xs)
eight_before p at xs w le fits =
    sym (drop-take p 8 (written xs at w)) ∙ ap (drop p) (front_same (p + 8) at xs (w ++ drop (at + length w) xs) le fits) ∙ drop-take p 8 xs

pub word_back : (word : ℕ) (bytes : List ℕ) → word < 2 ^ 64 → bytes ≡ to_le_bytes w64 word → length bytes ≡ 8 → number_of 256 bytes ≡ word
word_back word bytes small is eight = number_of_eight bytes eight ∙ ap (from_le_bytes w64) is ∙ from_le_bytes-to_le_bytes_8 word small

-- a write after the root's word keeps it
pub root_kept : (spaces : List Space) (i at : ℕ) (w : List ℕ) → i < length spaces → 8 ≤ at → at + length w ≤ length (space_at spaces i).used
    → word_at (message (slice_set spaces i (with_bytes (space_at spaces i) at w))) root ≡ word_at (message spaces) root
root_kept [] i at w within following room = absurd (omega (arith, within))
root_kept (s ∷ spaces) zero at w within following room =
    let long : length (written s.used at w) ≡ length s.used = written_length at s.used w room in
    used_word_there (with_bytes s at w ∷ spaces) root (omega arith) (omega (arith, long, room, following))
    ∙ ap (λ (b : List ℕ). Some (number_of 256 b)) (eight_before 0 at s.used w (omega (arith, following)) (omega (arith, room)))
    ∙ sym (used_word_there (s ∷ spaces) root (omega arith) (omega (arith, room, following)))
root_kept (s ∷ spaces) (suc i) at w within following room = refl

-- so does one after a word of the same segment
pub word_kept : (spaces : List Space) (i p at : ℕ) (w : List ℕ) → i < length spaces → 8 * p + 8 ≤ at → at + length w ≤ length (space_at spaces i).used
    → (let place : Place = record { segment = i; word = p } in word_at (message (slice_set spaces i (with_bytes (space_at spaces i) at w))) place ≡ word_at (message spaces) place)
word_kept spaces i p at w within following room =
    let place : Place = record { segment = i; word = p } in
    let new : List Space = slice_set spaces i (with_bytes (space_at spaces i) at w) in
    let here : space_at new i ≡ with_bytes (space_at spaces i) at w = set_here spaces i (with_bytes (space_at spaces i) at w) within in
    let used : (space_at new i).used ≡ written (space_at spaces i).used at w = ap (λ (s : Space). s.used) here in
    let long : length (space_at new i).used ≡ length (space_at spaces i).used = ap length used ∙ written_length at (space_at spaces i).used w room in
    let count : length new ≡ length spaces = length-set spaces i (with_bytes (space_at spaces i) at w) in
    used_word_there new place (omega (arith, count, within)) (omega (arith, long, room, following))
    ∙ ap (λ (b : List ℕ). Some (number_of 256 (take 8 (drop (8 * p) b)))) used
    ∙ ap (λ (b : List ℕ). Some (number_of 256 b)) (eight_before (8 * p) at (space_at spaces i).used w following (omega (arith, room)))
    ∙ sym (used_word_there spaces place within (omega (arith, room, following)))

-- what is written into a part of some bytes
written_suc : (s a : ℕ) (x : ℕ) (xs w : List ℕ) → written (x ∷ xs) (suc s + a) w ≡ x ∷ written xs (s + a) w
written_suc s a x xs w = rw (suc-add, suc-add) refl

pub drop_written : (s a : ℕ) (xs w : List ℕ) → s ≤ length xs → drop s (written xs (s + a) w) ≡ written (drop s xs) a w
drop_written zero a xs w fits = ap (λ (n : ℕ). written xs n w) (omega arith)
drop_written (suc s) a [] w fits = absurd (omega (arith, fits))
drop_written (suc s) a (x ∷ xs) w fits = ap (drop (suc s)) (written_suc s a x xs w) ∙ drop_written s a xs w (omega (arith, fits))

pub written_in_part : (s m a : ℕ) (xs w : List ℕ) → s + m ≤ length xs → a + length w ≤ m → take m (drop s (written xs (s + a) w)) ≡ written (take m (drop s xs)) a w
written_in_part s m a xs w fits inside =
    ap (take m) (drop_written s a xs w (omega (arith, fits))) ∙ written_used a m (drop s xs) w inside (omega (arith, fits, length-drop s xs))
