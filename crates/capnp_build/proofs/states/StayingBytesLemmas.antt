-- Used bytes that stay while segments are written.
use Rattle.std.proofs.Common.{◌≡◌, ◌⊎◌, inl, inr, ℕ, zero, suc, ◌+◌, ◌*◌, ◌<◌, ◌≤◌, List, [], ◌∷◌, ◌++◌, length, take, drop, replicate, Option, Some, None, MatchOption, slice_set, refl, ap, sym, subst, ◌∙◌, arith}
use Rattle.std.proofs.Common.{length-take, length-drop}
use Rattle.std.specs.Prelude.{⊤}
use Rattle.std.proofs.lemmas.Bool.{cases_lt}
use Rattle.std.proofs.lemmas.List.{drop-take, take-append-le, drop-append-le, length-replicate}
use Rattle.capnp_build.specs.Prelude.{Space, written, with_bytes, space_at, KeepsBytes, KeepsOutside, IsAdded, IsZeroAt}
use Rattle.capnp_build.specs.declared.arena.location.RootLocation.{RootLocation}
use Rattle.capnp_build.proofs.words.SegmentWriteKeepsEarlierWordsLemmas.{front_same}
use Rattle.capnp_build.proofs.words.UsedBytesThenZerosLemmas.{written_zero}

-- one segment is another one
pub set_part : (spaces : List Space) (i j from n : ℕ) (s : Space) → (i ≡ j → take n (drop from s.used) ≡ take n (drop from (space_at spaces i).used))
    → take n (drop from (space_at (slice_set spaces i s) j).used) ≡ take n (drop from (space_at spaces j).used)
set_part [] i j from n s same = refl
set_part (x ∷ spaces) zero zero from n s same = same refl
set_part (x ∷ spaces) zero (suc j) from n s same = refl
set_part (x ∷ spaces) (suc i) zero from n s same = refl
set_part (x ∷ spaces) (suc i) (suc j) from n s same = set_part spaces i j from n s (λ e. same (ap (λ (k : ℕ). suc k) e))

pub set_size : (spaces : List Space) (i j : ℕ) (s : Space) → s.size ≡ (space_at spaces i).size → (space_at (slice_set spaces i s) j).size ≡ (space_at spaces j).size
set_size [] i j s e = refl
set_size (x ∷ spaces) zero zero s e = e
set_size (x ∷ spaces) zero (suc j) s e = refl
set_size (x ∷ spaces) (suc i) zero s e = refl
set_size (x ∷ spaces) (suc i) (suc j) s e = set_size spaces i j s e

pub set_longer : (spaces : List Space) (i j : ℕ) (s : Space) → length (space_at spaces i).used ≤ length s.used
    → length (space_at spaces j).used ≤ length (space_at (slice_set spaces i s) j).used
set_longer [] i j s e = omega arith
set_longer (x ∷ spaces) zero zero s e = e
set_longer (x ∷ spaces) zero (suc j) s e = omega arith
set_longer (x ∷ spaces) (suc i) zero s e = omega arith
set_longer (x ∷ spaces) (suc i) (suc j) s e = set_longer spaces i j s e

-- bytes after these
pub part_after : (from n : ℕ) (xs ys : List ℕ) → from + n ≤ length xs → take n (drop from (xs ++ ys)) ≡ take n (drop from xs)
part_after from n xs ys fits =
    ap (take n) (drop-append-le from xs ys (omega (arith, fits))) ∙ take-append-le n (drop from xs) ys (omega (arith, fits, length-drop from xs))

-- a write after these bytes, and one before them
part_before : (from n at : ℕ) (xs w : List ℕ) → from + n ≤ at → at ≤ length xs → take n (drop from (written xs at w)) ≡ take n (drop from xs)
part_before from n at xs w le fits =
    sym (drop-take from n (written xs at w)) ∙ ap (drop from) (front_same (from + n) at xs (w ++ drop (at + length w) xs) le fits) ∙ drop-take from n xs

pub kept_before : (spaces last : List Space) (i at j from n : ℕ) (w : List ℕ) → last ≡ slice_set spaces i (with_bytes (space_at spaces i) at w) → (i ≡ j → from + n ≤ at)
    → at ≤ length (space_at spaces i).used → take n (drop from (space_at last j).used) ≡ take n (drop from (space_at spaces j).used)
kept_before spaces last i at j from n w e before fits =
    ap (λ (l : List Space). take n (drop from (space_at l j).used)) e
    ∙ set_part spaces i j from n (with_bytes (space_at spaces i) at w) (λ same. part_before from n at (space_at spaces i).used w (before same) fits)

pub kept_past : (spaces last : List Space) (i at j from n : ℕ) (w : List ℕ) → last ≡ slice_set spaces i (with_bytes (space_at spaces i) at w) → (i ≡ j → at + length w ≤ from)
    → from + n ≤ length (space_at spaces j).used → take n (drop from (space_at last j).used) ≡ take n (drop from (space_at spaces j).used)
kept_past spaces last i at j from n w e past fits =
    ap (λ (l : List Space). take n (drop from (space_at l j).used)) e
    ∙ set_part spaces i j from n (with_bytes (space_at spaces i) at w) (λ same.
    let here : from + n ≤ length (space_at spaces i).used = subst (λ (k : ℕ). from + n ≤ length (space_at spaces k).used) (sym same) fits in
    ap (take n) (written_zero at from (space_at spaces i).used w (past same) (omega (arith, here))))

pub kept_outside : (spaces last : List Space) (i at j from n : ℕ) (w : List ℕ) → last ≡ slice_set spaces i (with_bytes (space_at spaces i) at w)
    → (i ≡ j → (from + n ≤ at) ⊎ (at + length w ≤ from)) → at ≤ length (space_at spaces i).used → from + n ≤ length (space_at spaces j).used
    → take n (drop from (space_at last j).used) ≡ take n (drop from (space_at spaces j).used)
kept_outside spaces last i at j from n w e apart fits inside =
    ap (λ (l : List Space). take n (drop from (space_at l j).used)) e
    ∙ set_part spaces i j from n (with_bytes (space_at spaces i) at w) (λ same. elim (apart same) [
      | inl before ↦ part_before from n at (space_at spaces i).used w before fits
      | inr past ↦ (let here : from + n ≤ length (space_at spaces i).used = subst (λ (k : ℕ). from + n ≤ length (space_at spaces k).used) (sym same) inside in
          ap (take n) (written_zero at from (space_at spaces i).used w past (omega (arith, here))))
    ])

-- where there is no segment, no byte is used
pub none_outside : (location : Option RootLocation) (old new : List Space) → length old ≡ 0 → KeepsOutside location old new
none_outside location [] new none i from zero root lies fits = refl
none_outside location [] new none i from (suc n) root lies fits = let empty : length {A = ℕ} [] ≡ 0 = refl in absurd (omega (arith, fits, empty))
none_outside location (s ∷ old) new none i from n root lies fits = absurd (omega (arith, none))

-- what stayed outside of the old body stays when all used bytes do
pub outside_stays : (location : Option RootLocation) (old mid new : List Space) → KeepsOutside location old mid → KeepsBytes mid new → KeepsOutside location old new
outside_stays location old mid new outside keeps i from zero root lies fits = refl
outside_stays location old mid new outside keeps i from (suc n) root lies fits =
    let same = outside i from (suc n) root lies fits in
    keeps i from (suc n) root (omega (
      arith,
      ap length same,
      fits,
      length-take (suc n) (drop from (space_at mid i).used),
      length-drop from (space_at mid i).used,
      length-take (suc n) (drop from (space_at old i).used),
      length-drop from (space_at old i).used,
    )) ∙ same

-- a segment more
added_part : (spaces : List Space) (s : Space) (i from n : ℕ) → from + n ≤ length (space_at spaces i).used
    → take n (drop from (space_at (spaces ++ s ∷ []) i).used) ≡ take n (drop from (space_at spaces i).used)
added_part [] s i from zero fits = refl
added_part [] s i from (suc n) fits = let none : length {A = ℕ} [] ≡ 0 = refl in absurd (omega (arith, fits, none))
added_part (x ∷ spaces) s zero from n fits = refl
added_part (x ∷ spaces) s (suc i) from n fits = added_part spaces s i from n fits

added_longer : (spaces : List Space) (s : Space) (i : ℕ) → length (space_at spaces i).used ≤ length (space_at (spaces ++ s ∷ []) i).used
added_longer [] s i = omega arith
added_longer (x ∷ spaces) s zero = omega arith
added_longer (x ∷ spaces) s (suc i) = added_longer spaces s i

added_size : (spaces : List Space) (s : Space) (i : ℕ) → i < length spaces → (space_at (spaces ++ s ∷ []) i).size ≡ (space_at spaces i).size
added_size [] s i within = absurd (omega (arith, within))
added_size (x ∷ spaces) s zero within = refl
added_size (x ∷ spaces) s (suc i) within = added_size spaces s i (omega (arith, within))

-- a segment with room is found, or there is one more
pub found_bytes : (old mid new : List Space) (segment : ℕ) → (segment < length old → mid ≡ old) → (length old ≤ segment → (segment ≡ length old) × IsAdded old mid) → KeepsBytes mid new
    → KeepsBytes old new
found_bytes old mid new segment older newer keeps = elim (cases_lt segment (length old)) [
  | inl among ↦ subst (λ (l : List Space). KeepsBytes l new) (older among) keeps
  | inr past ↦ (let more = (newer past).1 in λ i from n root fits.
      let wide : length (space_at old i).used ≤ length (space_at mid i).used =
      subst (λ (l : List Space). length (space_at old i).used ≤ length (space_at l i).used) (sym more.1) (added_longer old more.0 i) in
      keeps i from n root (omega (arith, wide, fits)) ∙ ap (λ (l : List Space). take n (drop from (space_at l i).used)) more.1 ∙ added_part old more.0 i from n fits)
]

pub found_sizes : (old mid new : List Space) (segment : ℕ) → (segment < length old → mid ≡ old) → (length old ≤ segment → (segment ≡ length old) × IsAdded old mid)
    → ((i : ℕ) → (space_at new i).size ≡ (space_at mid i).size) → (i : ℕ) → i < length old → (space_at new i).size ≡ (space_at old i).size
found_sizes old mid new segment older newer sizes i within = elim (cases_lt segment (length old)) [
  | inl among ↦ sizes i ∙ ap (λ (l : List Space). (space_at l i).size) (older among)
  | inr past ↦ (let more = (newer past).1 in sizes i ∙ ap (λ (l : List Space). (space_at l i).size) more.1 ∙ added_size old more.0 i within)
]

-- zeros that stay
part_zero : (n from : ℕ) (xs ys : List ℕ) → take n (drop from xs) ≡ replicate n 0 → (from + n ≤ length xs → take n (drop from ys) ≡ take n (drop from xs)) → take n (drop from ys) ≡ replicate n 0
part_zero zero from xs ys is keeps = refl
part_zero (suc n) from xs ys is keeps =
    keeps (omega (arith, ap length is, length-replicate {A = ℕ} (suc n) 0, length-take (suc n) (drop from xs), length-drop from xs)) ∙ is

pub zero_stays : (old : Option RootLocation) (mid new : List Space) → MatchOption old ⊤ (λ location. 0 < location.start) → MatchOption old ⊤ (IsZeroAt mid) → KeepsBytes mid new → MatchOption old ⊤ (IsZeroAt new)
zero_stays None mid new following is keeps = tt
zero_stays (Some location) mid new following is keeps =
    part_zero (8 * location.words) (8 * location.start) (space_at mid location.segment).used (space_at new location.segment).used is
    (λ fits. keeps location.segment (8 * location.start) (8 * location.words) (λ first. omega (arith, following)) fits)
