-- What the steps of a reader and of a packer do.
use Rattle.std.specs.Prelude.{◌≡◌, ℕ, ◌+◌, ◌*◌, ◌%◌, ◌<◌, ◌≤◌, ◌⊎◌, List, [], ◌∷◌, ◌++◌, length, take, drop, replicate, not, ◌==◌, if◌then◌else◌, Option, IfSome}
use Rattle.std.specs.List.{concat, filter, AllByRecursion}
use Rattle.capnp_frame.specs.declared.error.ErrorKind.{ErrorKind}
use Rattle.capnp_frame.specs.declared.error.ErrorKind.TheVariants.{PrematureEndOfPackedInput, PackedInputDidNotEndCleanlyOnASegmentBoundary}
use Rattle.capnp_frame.specs.Prelude.{Appending, Leaving, AppendsAll, LeavesSome, Refusing, RunsShort, IfKnown, ReturnsPart}
use Rattle.capnp_pack.specs.Group.{Group, IsGroup, AreZero, group_encoding, group_words, marked, unmarked, zero_bytes, zero_word}
use Rattle.capnp_pack.specs.Chunk.{IsChunk, encoding_of, words_of_groups}
use Rattle.capnp_pack.specs.Packed.{IfFirst, IsLongest}
use Rattle.capnp_pack.specs.PackedSource.{Unpacks, GroupError, PackedError, head_encoding, group_size}

-- Reading

-- a group of this tag and these bytes is at the front, and its tag has been read
abbrev pub GroupAt : ℕ → List ℕ → List ℕ → List ℕ → Type 0
GroupAt tag bytes raw left = (group : Group) × IsGroup group × (bytes ≡ concat (group_words group)) × (tag ∷ raw ≡ group_encoding group ++ left)

-- the first group can't be taken, where n bytes are asked for
abbrev pub FirstGroupError : Refusing
FirstGroupError raw n kind = (0 < n) × GroupError raw n kind

-- the same, where its tag has been read
abbrev pub ErrorAfter : ℕ → Refusing
ErrorAfter tag raw n kind = FirstGroupError (tag ∷ raw) n kind

-- the bytes of a word that a tag marks are at the front, and its others are zero
abbrev pub MarkedAt : ℕ → List ℕ → List ℕ → List ℕ → Type 0
MarkedAt tag word raw left = (raw ≡ marked tag word ++ left) × AreZero (unmarked tag word)

-- The first `used` bytes, at most eight, are the bytes of a word that a tag marks.
pub record TakesMarked (tag : ℕ) (encoding word : List ℕ) (used : ℕ) : Type 0 where
  pub used_within : used ≤ 8
  pub marked : MarkedAt tag word encoding (drop used encoding)

-- how many of a given number of bytes a tag marks
abbrev pub marked_count : ℕ → ℕ → ℕ
marked_count tag n = length (marked tag (replicate n 0))

-- fewer bytes than n are unread
abbrev pub CutError : ℕ → Option (List ℕ) → ErrorKind → Type 0
CutError n unread kind = IfSome unread (λ raw. length raw < n) × (kind ≡ PrematureEndOfPackedInput)

-- a count of words and their bytes are at the front
abbrev pub RunAt : List ℕ → List ℕ → List ℕ → Type 0
RunAt run raw left = (further : ℕ) × (further < 256) × (length run ≡ 8 * further) × (raw ≡ further ∷ run ++ left)

-- the count is missing, or larger than what is asked for, or its words are cut
abbrev pub CountedRunError : Refusing
CountedRunError raw n kind = ((raw ≡ []) × (kind ≡ PrematureEndOfPackedInput))
    ⊎ ((further : ℕ) × (left : List ℕ) × (further < 256) × (raw ≡ further ∷ left)
    × (((n < 8 * further) × (kind ≡ PackedInputDidNotEndCleanlyOnASegmentBoundary)) ⊎ ((8 * further ≤ n) × RunsShort left (8 * further) kind)))

-- The first `used` bytes after a tag complete its group, which fills `filled` bytes of a buffer.
pub record GroupFollowing (tag : ℕ) (following buffer : List ℕ) (used filled : ℕ) : Type 0 where
  pub used_within : used ≤ length following
  pub some : 0 < filled
  pub filled_within : filled ≤ length buffer
  pub whole : filled % 8 ≡ 0
  pub group : GroupAt tag (take filled buffer) following (drop used following)

-- The first `used` bytes are groups, which fill `filled` bytes of a buffer.
pub record Unpacked (encoding buffer : List ℕ) (used filled : ℕ) : Type 0 where
  pub used_within : used ≤ length encoding
  pub some : 0 < filled → 0 < used
  pub filled_within : filled ≤ length buffer
  pub whole : filled % 8 ≡ 0
  pub chunk : IsChunk (take used encoding) (take filled buffer)

-- whole groups, whose words have this many bytes, are taken from the front
abbrev pub HasProgress : ℕ → List ℕ → List ℕ → Type 0
HasProgress count raw left = (groups : List Group) × AllByRecursion IsGroup groups × (raw ≡ encoding_of groups ++ left)
    × (length (concat (words_of_groups groups)) ≡ count)

-- the head of a group is at the front, its tag has been read, and its words have more than n bytes
abbrev pub HeadOver : ℕ → ℕ → List ℕ → List ℕ → Type 0
HeadOver tag n raw left = (group : Group) × IsGroup group × (n < group_size group) × (tag ∷ raw ≡ head_encoding group ++ left)

-- at the front is a count of words that have more than n bytes
abbrev pub CountOver : ℕ → List ℕ → List ℕ → Type 0
CountOver n raw left = (further : ℕ) × (further < 256) × (n < 8 * further) × (raw ≡ further ∷ left)

-- The first `count` bytes of a buffer are the words of groups, a part of the result of each request
-- that they fit into, and something was unread before them.
abbrev pub TakesGroups : Option (List ℕ) → Option (List ℕ) → List ℕ → ℕ → Type 0
TakesGroups old new buffer count = (0 < count) × (count ≤ length buffer) × (count % 8 ≡ 0)
    × IfSome old (λ raw. raw ≡ [] → ⊥)
    × IfKnown old new (HasProgress count)
    × IfKnown old new (ReturnsPart Unpacks PackedError (length buffer) (take count buffer))

-- The first `used` bytes are groups, whose words have `filled` bytes, at most a given number.
pub record BeginsWithGroups (encoding : List ℕ) (most used filled : ℕ) : Type 0 where
  pub used_within : used ≤ length encoding
  pub some : 0 < filled → 0 < used
  pub filled_within : filled ≤ most
  pub whole : filled % 8 ≡ 0
  pub groups : HasProgress filled encoding (drop used encoding)

-- Groups are passed over whose words have `count` bytes, at most a given number, and something was
-- unread before them.
abbrev pub PassesGroups : Option (List ℕ) → Option (List ℕ) → ℕ → ℕ → Type 0
PassesGroups old new most count = (0 < count) × (count ≤ most) × (count % 8 ≡ 0)
    × IfSome old (λ raw. raw ≡ [] → ⊥) × IfKnown old new (HasProgress count)

-- Packing

abbrev pub IsZero : List ℕ → Type 0
IsZero word = word ≡ zero_word

abbrev pub HasFewZeros : List ℕ → Type 0
HasFewZeros word = zero_bytes word ≤ 1

-- a bit for each byte that isn't zero, the first byte's the least significant
abbrev pub tag_of : List ℕ → ℕ
tag_of [] = 0
tag_of (byte ∷ bytes) = (if byte == 0 then 0 else 1) + 2 * tag_of bytes

abbrev pub nonzero : List ℕ → List ℕ
nonzero word = filter (λ byte. not (byte == 0)) word

-- P holds of this many words at the front, and not of the next one, or they are 255.
pub record IsRun (P : List ℕ → Type 0) (words : List (List ℕ)) (count : ℕ) : Type 0 where
  pub most : count ≤ 255
  pub within : count ≤ length words
  pub each : AllByRecursion P (take count words)
  pub ends : count < 255 → IfFirst (drop count words) (λ word. P word → ⊥)

-- The group that a packer makes of a word and this many of the words after it.
pub record IsGroupOf (word : List ℕ) (others : List (List ℕ)) (count : ℕ) (group : Group) : Type 0 where
  pub within : count ≤ length others
  pub is : IsGroup group
  pub words : group_words group ≡ word ∷ take count others
  pub longest : IsLongest group (drop count others)

-- A buffer ended with a word's tag and its nonzero bytes; now it ends with the group of the word.
abbrev pub EndsGroup : List ℕ → List (List ℕ) → ℕ → List ℕ → List ℕ → Type 0
EndsGroup word others count old new = (group : Group) × IsGroupOf word others count group
    × ((front : List ℕ) → old ≡ front ++ tag_of word ∷ nonzero word → new ≡ front ++ group_encoding group)

-- Of a buffer's bytes and the bytes `encoding` after them, some parts are handed on, and the buffer
-- keeps the rest.
pub record Hands (appends : Appending) (old encoding new before after : List ℕ) : Type 0 where
  pub parts : List (List ℕ)
  pub handed : List ℕ
  pub declared : AppendsAll appends parts handed
  pub added : after ≡ before ++ handed
  pub kept : old ++ encoding ≡ concat parts ++ new

-- Some bytes are cut into parts in any way. The first parts are added, and of the next one nothing,
-- or what a call that fails leaves of it.
abbrev pub LeavesParts : Appending → Leaving → List ℕ → List ℕ → Type 0
LeavesParts appends leaves encoding left = (parts : List (List ℕ)) × (concat parts ≡ encoding) × LeavesSome appends leaves parts left

-- the bytes of a buffer, followed by the count of a literal run and its words
abbrev pub LiteralAfter : List ℕ → List (List ℕ) → List ℕ → Type 0
LiteralAfter buffer others encoding = (count : ℕ) × IsRun HasFewZeros others count × (encoding ≡ buffer ++ count ∷ concat (take count others))

-- the bytes of a buffer, followed by the group of a word and some of the words after it
abbrev pub GroupAfter : List ℕ → List ℕ → List (List ℕ) → List ℕ → Type 0
GroupAfter buffer word others encoding = (count : ℕ) × (group : Group) × IsGroupOf word others count group × (encoding ≡ buffer ++ group_encoding group)
