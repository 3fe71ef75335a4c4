-- Segments after one another in one list of bytes (SegmentLengthsBuilder and OwnedSegments).
use Rattle.std.specs.Prelude.{◌≡◌, ℕ, Bool, true, false, ◌+◌, ◌-◌, ◌*◌, List, [], ◌∷◌, map, take, drop, sum}

-- where each part begins and ends: parts of these lengths follow one another from `start` on
abbrev pub ranges_from : ℕ → List ℕ → List (ℕ × ℕ)
ranges_from start [] = []
ranges_from start (n ∷ ns) = (start, start + n) ∷ ranges_from (start + n) ns

-- where each segment begins and ends, in words from the first segment's start
abbrev pub ranges : List ℕ → List (ℕ × ℕ)
ranges lengths = ranges_from 0 lengths

-- from its begin to its end
abbrev pub range_len : ℕ × ℕ → ℕ
range_len range = range.1 - range.0

-- The bytes cut into segments of these lengths, in words. Bytes after the last segment are left
-- out.
abbrev pub cut : List ℕ → List ℕ → List (List ℕ)
cut [] bytes = []
cut (n ∷ ns) bytes = take (8 * n) bytes ∷ cut ns (drop (8 * n) bytes)

-- Each range begins where the one before it ends, the first at 0, and the last ends at the total.
pub record AreRanges (indices : List (ℕ × ℕ)) (total : ℕ) : Type 0 where
  pub running : indices ≡ ranges (map range_len indices)
  pub total_is : total ≡ sum (map range_len indices)

-- the ranges of one segment alone, or of any other number
abbrev pub kept_ranges : Bool → ℕ × ℕ → List (ℕ × ℕ) → List (ℕ × ℕ)
kept_ranges true only several = only ∷ []
kept_ranges false only several = several
