-- What is written of a message that is built (src/segments.rt).
use Rattle.std.specs.Prelude.{◌≡◌, ℕ, ◌*◌, ◌%◌, ◌^◌, ◌<◌, ◌≤◌, List, length, map}
use Rattle.capnp_frame.specs.Prelude.{IsWritable}
use Rattle.capnp_build.specs.Bytes.{Space}
use Rattle.capnp_build.specs.BuilderState.{used_of}

-- whole words of a segment are used, at most 2 ^ 29 of them
abbrev pub UsesWords : Space → Type 0
UsesWords space = (length space.used % 8 ≡ 0) × (length space.used ≤ 8 * 2 ^ 29)

-- where there is a segment, the used words can be written
abbrev pub CanBeWritten : List Space → Type 0
CanBeWritten spaces = 0 < length spaces → IsWritable (map used_of spaces)

-- this many words are used
pub record CountsUsedWords (count : ℕ) (used : List ℕ) : Type 0 where
  pub words : 8 * count ≡ length used
  pub bound : count ≤ 2 ^ 29
