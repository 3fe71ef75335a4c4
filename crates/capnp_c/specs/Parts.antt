-- What the export that unpacks words in parts writes and returns (src/packed_parts.rt).
use Rattle.std.specs.Prelude.{◌≡◌, ◌≢◌, ℕ, ◌+◌, ◌-◌, ◌%◌, ◌<◌, ◌≤◌, List, ◌++◌, length, take, drop}
use Rattle.capnp_frame.specs.declared.error.ErrorKind.{ErrorKind}
use Rattle.capnp_frame.specs.declared.error.ErrorKind.TheVariants.{NotWholeWords, PackedInputDidNotEndCleanlyOnASegmentBoundary}
use Rattle.capnp_frame.specs.Prelude.{IsWholeWords, ReturnsPart, Unless, kind_number}
use Rattle.capnp_pack.specs.Prelude.{BeginsWithGroups, FirstGroupError, Group, IsGroup, PackedError, Unpacks, group_encoding}
use Rattle.capnp_c.specs.declared.packed_parts.FirstGroup.{FirstGroup}
use Rattle.capnp_c.specs.declared.packed_parts.Groups.{Groups}

-- a run goes past the end of the words that are asked for
abbrev pub Overrun : ErrorKind
Overrun = PackedInputDidNotEndCleanlyOnASegmentBoundary

-- the first error is that a byte isn't there
abbrev pub IsCut : List ℕ → ℕ → Type 0
IsCut packed most = (kind : ErrorKind) × (kind ≢ Overrun) × FirstGroupError packed most kind

-- The group that begins some bytes: how many it has, and how many its words have.
pub record IsFirstGroup (shown : List ℕ) (most : ℕ) (group : FirstGroup) : Type 0 where
  pub few : (2 ≤ group.len) × (group.len ≤ 2050)
  pub some : 0 < group.filled
  -- where as many bytes are there, it is whole
  pub whole : group.len ≤ length shown → BeginsWithGroups shown most group.len group.filled
  pub cut : length shown < group.len → IsCut shown most
  -- whatever follows, it has as many bytes at least
  pub least : (first : Group) (more rest : List ℕ) → IsGroup first → shown ++ more ≡ group_encoding first ++ rest → group.len ≤ length (group_encoding first)

-- At least a given number of bytes more have to follow, to unpack as many bytes of words.
abbrev pub Needs : List ℕ → ℕ → ℕ → Type 0
Needs packed most needed = (more bytes rest : List ℕ) → Unpacks (packed ++ more) most bytes rest → needed + length rest ≤ length more

-- The whole groups at the front of packed bytes, whose words have at most as many bytes.
pub record FindsGroups (packed : List ℕ) (most : ℕ) (groups : Groups) : Type 0 where
  pub front : BeginsWithGroups packed most groups.used groups.filled
  -- where there are fewer, the next group is cut, and no group is as long as what is left
  pub cut : groups.filled < most → IsCut (drop groups.used packed) (most - groups.filled)
  pub left : groups.filled < most → (length packed < groups.used + 2050) × (0 < groups.needed) × Needs packed most groups.needed
  pub all : groups.filled ≡ most → groups.needed ≡ 0

-- The words of whole groups are written.
pub record IsUnpackedPart (packed words : List ℕ) (groups : Groups) : Type 0 where
  pub within : (groups.used ≤ length packed) × (groups.filled ≤ length words)
  -- whatever follows, the rest is unpacked to the other words just as all is unpacked to these words
  pub part : (more : List ℕ) → ReturnsPart Unpacks PackedError (length words) (take groups.filled words) (packed ++ more) (drop groups.used packed ++ more)
  pub fits : PackedError packed (length words) Overrun → ⊥
  pub left : groups.filled < length words → (length packed < groups.used + 2050) × (0 < groups.needed) × Needs packed (length words) groups.needed
  pub all : groups.filled ≡ length words → groups.needed ≡ 0

-- nothing is written: the words aren't whole ones, or a run goes past their end
abbrev pub UnpacksPartError : List ℕ → ℕ → ErrorKind → Type 0
UnpacksPartError packed most kind = Unless (most % 8 ≢ 0) (kind ≡ NotWholeWords) (PackedError packed most Overrun × (kind ≡ Overrun))

-- Packed bytes are unpacked in parts: those that are there, as far as they are whole groups.
pub record UnpacksPart (packed words : List ℕ) (read written needed result : ℕ) : Type 0 where
  -- what is written where 0 is returned
  pub unpacked : result ≡ 0 → IsUnpackedPart packed words (record { used = read; filled = written; needed = needed })
  -- 0 exactly where no run goes past the end
  pub accepted : IsWholeWords words → (PackedError packed (length words) Overrun → ⊥) → result ≡ 0
  pub errors : (kind : ErrorKind) → UnpacksPartError packed (length words) kind → result ≡ kind_number kind
  pub stays : 0 < result → (read ≡ 0) × (written ≡ 0) × (needed ≡ 0)
