-- What a reader accepts (ReaderOptions and SEGMENTS_COUNT_LIMIT).
use Rattle.std.specs.Prelude.{ℕ, ◌<◌, ◌≤◌, List, length, sum, Option, Some, IfSome}
use Rattle.std.specs.List.{AllByRecursion}
use Rattle.capnp_frame.specs.Message.{lengths}
use Rattle.capnp_frame.specs.SegmentTable.{FitsField}
use Rattle.capnp_frame.specs.declared.serialize.segment_table.TheConstants.{SEGMENTS_COUNT_LIMIT}

-- how many words a reader accepts by default (DEFAULT_READER_OPTIONS)
abbrev pub default_limit : Option ℕ
default_limit = Some 8388608

-- no more words than the limit, where there is one
abbrev pub KeepsLimit : List ℕ → Option ℕ → Type 0
KeepsLimit lengths limit = IfSome limit (λ most. sum lengths ≤ most)

-- lengths that a reader accepts: 1 to 511, each below 2 ^ 32, of no more words than the limit
pub record AreWithin (lengths : List ℕ) (limit : Option ℕ) : Type 0 where
  pub some : 0 < length lengths
  pub few : length lengths < SEGMENTS_COUNT_LIMIT
  pub each : AllByRecursion FitsField lengths
  pub size : KeepsLimit lengths limit

-- a message that a reader accepts
abbrev pub IsWithin : List (List ℕ) → Option ℕ → Type 0
IsWithin segments limit = AreWithin (lengths segments) limit
