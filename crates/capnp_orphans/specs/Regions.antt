-- Segments at the front of caller-provided regions, which are continued (src/continued.rt).
use Rattle.std.specs.Prelude.{ℕ, ◌≡◌, ◌+◌, ◌*◌, ◌%◌, ◌^◌, ◌<◌, ◌≤◌, List, Some, Ok, length, take}
use Rattle.capnp_orphans.specs.Segments.{Segment, AppendsObject}
use Rattle.capnp_orphans.specs.Adding.{Keeps, SetsRootOrphan}

-- the segment that is the first bytes of a region
abbrev pub segment_in : List ℕ → ℕ → Segment
segment_in region used = record { bytes = take used region; most = Some (length region); capacity = length region }

-- as many bytes can be a segment: whole words in the region, at least the root's, and no more than a pointer can reach
pub record IsUsed (region : List ℕ) (used : ℕ) : Type 0 where
  pub rooted : 8 ≤ used
  pub within : used ≤ length region
  pub whole : used % 8 ≡ 0
  pub few : used < 2 ^ 32

-- An object of this many words is appended to that segment, and its orphan is the word.
pub record AppendsInRegion (holds : List ℕ → List ℕ → ℕ → Type 0) (words used : ℕ) (old new : List ℕ) (word : ℕ) : Type 0 where
  -- exactly the object's words are appended, and `holds` says what the orphan is
  pub appended : AppendsObject holds words (segment_in old used) (segment_in new (used + 8 * words)) (Ok word)
  -- all orphans keep their trees
  pub keeps : Keeps (segment_in old used) (segment_in new (used + 8 * words))
  -- and the region can be continued after it
  pub continued : IsUsed new (used + 8 * words)

-- The root of that segment is set to the orphan of this word.
pub record SetsRootInRegion (word used : ℕ) (old new : List ℕ) : Type 0 where
  pub root_is : SetsRootOrphan word (segment_in old used) (segment_in new used)
  pub continued : IsUsed new used
