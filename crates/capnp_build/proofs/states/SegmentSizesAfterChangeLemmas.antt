-- Segments once one of them is written over, is longer, or is added: its used bytes, the free words of each, and
-- the words of all.
use Rattle.std.proofs.lemmas.List.{length-replicate}
use Rattle.std.proofs.Common.{◌≡◌, ℕ, zero, suc, ◌+◌, ◌-◌, ◌*◌, ◌/◌, ◌^◌, ◌<◌, ◌≤◌, List, [], ◌∷◌, length, map, take, drop, Option, Some, None, slice_get, refl, sym, ap, ◌∙◌, arith, ◌++◌}
use Rattle.std.proofs.Common.{replicate, slice_index_or, slice_set, subst, length-set, min}
use Rattle.capnp_layout.specs.Prelude.{words_of, word_at, root}
use Rattle.capnp_build.specs.Prelude.{Space, written, with_bytes, used_of, space_at, free_words_of, message, size_in_words, KeepsRooms}
use Rattle.capnp_build.proofs.words.UsedBytesThenZerosLemmas.{written_length, written_zero}
use Rattle.capnp_build.proofs.words.SegmentWriteKeepsEarlierWordsLemmas.{used_at, set_here, part_here}

-- what is got of a segment are its used bytes
pub got_used : (spaces : List Space) (i : ℕ) (got : Option (List ℕ)) (bytes : List ℕ) → i < length spaces → got ≡ slice_get (map used_of spaces) i → got ≡ Some bytes → bytes ≡ (space_at spaces i).used
got_used spaces i got bytes within e f = let u : slice_get (map used_of spaces) i ≡ Some (space_at spaces i).used = used_at spaces i within in cc

-- bytes that are got are bytes
pub got_low : (spaces : List Space) (i : ℕ) (got : Option (List ℕ)) (bytes : List ℕ) → i < length spaces → got ≡ slice_get (map used_of spaces) i → got ≡ Some bytes
    → ((j : ℕ) → slice_index_or bytes j 0 < 256) → (j : ℕ) → slice_index_or (space_at spaces i).used j 0 < 256
got_low spaces i got bytes within e f low = subst (λ (l : List ℕ). (j : ℕ) → slice_index_or l j 0 < 256) (got_used spaces i got bytes within e f) low

pub got_none : (spaces : List Space) (i : ℕ) (got : Option (List ℕ)) → i < length spaces → got ≡ slice_get (map used_of spaces) i → got ≡ None → ⊥
got_none spaces i got within e f = let u : slice_get (map used_of spaces) i ≡ Some (space_at spaces i).used = used_at spaces i within in cc

pub size_set : (spaces : List Space) (i : ℕ) (s : Space) → length s.used ≡ length (space_at spaces i).used → size_in_words (slice_set spaces i s) ≡ size_in_words spaces
size_set [] i s e = refl
size_set (x ∷ spaces) zero s e = ap (λ (n : ℕ). n / 8 + size_in_words spaces) e
size_set (x ∷ spaces) (suc i) s e = ap (λ (n : ℕ). length x.used / 8 + n) (size_set spaces i s e)

pub drop_all : (xs ys : List ℕ) (n : ℕ) → n ≡ length xs → drop n (xs ++ ys) ≡ ys
drop_all [] ys n e = rw e refl
drop_all (x ∷ xs) ys zero e = cc
drop_all (x ∷ xs) ys (suc n) e = drop_all xs ys n (omega (arith, e))

pub set_room : (spaces : List Space) (i j : ℕ) (s : Space) → length s.used ≡ length (space_at spaces i).used → length (space_at (slice_set spaces i s) j).used ≡ length (space_at spaces j).used
set_room [] i j s e = refl
set_room (x ∷ spaces) zero zero s e = e
set_room (x ∷ spaces) zero (suc j) s e = refl
set_room (x ∷ spaces) (suc i) zero s e = refl
set_room (x ∷ spaces) (suc i) (suc j) s e = set_room spaces i j s e

-- a segment more keeps the root
pub root_appended : (spaces : List Space) (s : Space) → 0 < length spaces → word_at (message (spaces ++ s ∷ [])) root ≡ word_at (message spaces) root
root_appended [] s there = absurd (omega (arith, there))
root_appended (x ∷ spaces) s there = refl

-- segments after some calls
pub set_used : (spaces last : List Space) (i : ℕ) (s : Space) → i < length spaces → last ≡ slice_set spaces i s → (length last ≡ length spaces) × (space_at last i ≡ s)
set_used spaces last i s within e = (ap length e ∙ length-set spaces i s, ap (λ (l : List Space). space_at l i) e ∙ set_here spaces i s within)

pub set_apart : (spaces : List Space) (i j : ℕ) (s : Space) → (i ≡ j → ⊥) → space_at (slice_set spaces i s) j ≡ space_at spaces j
set_apart [] i j s other = refl
set_apart (x ∷ spaces) zero zero s other = absurd (other refl)
set_apart (x ∷ spaces) zero (suc j) s other = refl
set_apart (x ∷ spaces) (suc i) zero s other = refl
set_apart (x ∷ spaces) (suc i) (suc j) s other = set_apart spaces i j s (λ e. other (ap (λ (n : ℕ). suc n) e))

-- the one segment is a value's layout
pub one_space : (spaces : List Space) → length spaces ≡ 1 → message spaces ≡ words_of (space_at spaces 0).used ∷ []
one_space [] one = absurd (omega (arith, one))
one_space (s ∷ []) one = refl
one_space (s ∷ t ∷ rest) one = absurd (omega (arith, one))

-- bytes that are written take no room
set_rooms : (spaces : List Space) (i j : ℕ) (s : Space) → s.size ≡ (space_at spaces i).size → length s.used ≡ length (space_at spaces i).used
    → free_words_of (space_at (slice_set spaces i s) j) ≡ free_words_of (space_at spaces j)
set_rooms [] i j s e f = refl
set_rooms (x ∷ spaces) zero zero s e f = ap (λ (n : ℕ). min (n / 8) (2 ^ 29) - length s.used / 8) e ∙ ap (λ (n : ℕ). min (x.size / 8) (2 ^ 29) - n / 8) f
set_rooms (x ∷ spaces) zero (suc j) s e f = refl
set_rooms (x ∷ spaces) (suc i) zero s e f = refl
set_rooms (x ∷ spaces) (suc i) (suc j) s e f = set_rooms spaces i j s e f

pub one_zeroed : (spaces last : List Space) (i at_byte : ℕ) (w : List ℕ) → at_byte + length w ≤ length (space_at spaces i).used → last ≡ slice_set spaces i (with_bytes (space_at spaces i) at_byte w)
    → (length last ≡ length spaces) × ((j : ℕ) → free_words_of (space_at last j) ≡ free_words_of (space_at spaces j)) × ((j : ℕ) → length (space_at last j).used ≡ length (space_at spaces j).used)
one_zeroed spaces last i at_byte w room e =
    let long : length (written (space_at spaces i).used at_byte w) ≡ length (space_at spaces i).used = written_length at_byte (space_at spaces i).used w room in (
      ap length e ∙ length-set spaces i (with_bytes (space_at spaces i) at_byte w),
      λ j. ap (λ (l : List Space). free_words_of (space_at l j)) e ∙ set_rooms spaces i j (with_bytes (space_at spaces i) at_byte w) refl long,
      λ j. ap (λ (l : List Space). length (space_at l j).used) e ∙ set_room spaces i j (with_bytes (space_at spaces i) at_byte w) long,
    )

pub two_zeroed : (spaces more last : List Space) (i at_byte : ℕ) (w v : List ℕ) → at_byte + length w ≤ length (space_at spaces i).used → length v ≤ length (space_at spaces 0).used
    → more ≡ slice_set spaces i (with_bytes (space_at spaces i) at_byte w) → last ≡ slice_set more 0 (with_bytes (space_at more 0) 0 v) → KeepsRooms spaces last
two_zeroed spaces more last i at_byte w v room first e f there =
    let a = one_zeroed spaces more i at_byte w room e in
    let b = one_zeroed more last 0 0 v (omega (arith, first, a.2 0)) f in
    (b.0 ∙ a.0, λ j. b.1 j ∙ a.1 j)

-- the words of one segment more
pub used_size_more : (spaces : List Space) (i : ℕ) → i < length spaces → size_in_words (take (suc i) spaces) ≡ size_in_words (take i spaces) + length (space_at spaces i).used / 8
used_size_more [] i within = absurd (omega (arith, within))
used_size_more (s ∷ spaces) zero within = omega arith
used_size_more (s ∷ spaces) (suc i) within = ap (λ (n : ℕ). length s.used / 8 + n) (used_size_more spaces i (omega (arith, within))) ∙ omega arith

-- a segment that uses a given number of words more
pub size_longer : (spaces : List Space) (i n : ℕ) (s : Space) → i < length spaces → length s.used ≡ length (space_at spaces i).used + 8 * n
    → size_in_words (slice_set spaces i s) ≡ size_in_words spaces + n
size_longer [] i n s within long = absurd (omega (arith, within))
size_longer (x ∷ spaces) zero n s within long = omega (arith, long)
size_longer (x ∷ spaces) (suc i) n s within long =
    let rest = size_longer spaces i n s (omega (arith, within)) long in
    ap (λ (k : ℕ). length x.used / 8 + k) rest ∙ omega arith

pub size_added : (spaces : List Space) (s : Space) → s.used ≡ [] → size_in_words (spaces ++ s ∷ []) ≡ size_in_words spaces
size_added [] s none = let l : length s.used ≡ 0 = ap length none in omega (arith, l)
size_added (x ∷ spaces) s none = ap (λ (k : ℕ). length x.used / 8 + k) (size_added spaces s none)

-- nothing is used of what is past the segments, nor of a new one
pub past_all : (spaces : List Space) → (space_at spaces (length spaces)).used ≡ []
past_all [] = refl
past_all (x ∷ spaces) = past_all spaces

pub added_there : (spaces : List Space) (s : Space) → space_at (spaces ++ s ∷ []) (length spaces) ≡ s
added_there [] s = refl
added_there (x ∷ spaces) s = added_there spaces s

past_root : (mid last : List Space) (i from n : ℕ) → 8 ≤ from → from + n ≤ length (space_at mid i).used → i < length mid → last ≡ slice_set mid 0 (with_bytes (space_at mid 0) 0 (replicate 8 0))
    → take n (drop from (space_at last i).used) ≡ take n (drop from (space_at mid i).used)
past_root mid last zero from n following room within f =
    let b = set_used mid last 0 (with_bytes (space_at mid 0) 0 (replicate 8 0)) within f in
    let eight : length {A = ℕ} (replicate 8 0) ≡ 8 = refl in
    ap (λ (s : Space). take n (drop from s.used)) b.1 ∙ ap (take n) (written_zero 0 from (space_at mid 0).used (replicate 8 0) (omega (arith, following, eight)) (omega (arith, room)))
past_root mid last (suc i) from n following room within f =
    let apart : 0 ≡ suc i → ⊥ = λ q. absurd (omega (arith, q)) in
    ap (λ (l : List Space). take n (drop from (space_at l (suc i)).used)) f ∙ ap (λ (s : Space). take n (drop from s.used)) (set_apart mid 0 (suc i) (with_bytes (space_at mid 0) 0
    (replicate 8 0)) apart)

-- a block made zero, and then the root's word
pub wiped : (spaces mid last : List Space) (i from n k : ℕ) → i < length spaces → 8 ≤ from → k ≡ n → from + n ≤ length (space_at spaces i).used
    → mid ≡ slice_set spaces i (with_bytes (space_at spaces i) from (replicate k 0)) → last ≡ slice_set mid 0 (with_bytes (space_at mid 0) 0 (replicate 8 0))
    → take n (drop from (space_at last i).used) ≡ replicate n 0
wiped spaces mid last i from n k within following e room d f =
    let zs : List ℕ = replicate k 0 in
    let old : List ℕ = (space_at spaces i).used in
    let long : length zs ≡ n = omega (arith, e, length-replicate {A = ℕ} k 0) in
    let a = set_used spaces mid i (with_bytes (space_at spaces i) from zs) within d in
    let here : take n (drop from (space_at mid i).used) ≡ replicate n 0 =
    ap (λ (s : Space). take n (drop from s.used)) a.1 ∙ ap (λ (m : ℕ). take m (drop from (written old from zs))) (sym long) ∙ part_here from old zs (omega (arith, room))
    ∙ ap (λ (m : ℕ). replicate m 0) e in
    let wide : length (space_at mid i).used ≡ length old = ap (λ (s : Space). length s.used) a.1 ∙ written_length from old zs (omega (arith, long, room)) in
    past_root mid last i from n following (omega (arith, wide, room)) (omega (arith, within, a.0)) f ∙ here
