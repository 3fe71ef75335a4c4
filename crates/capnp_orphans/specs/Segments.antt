-- Segments that grow at their end (src/segment.rt).
use Rattle.std.specs.Prelude.{◌≡◌, ℕ, ◌+◌, ◌*◌, ◌/◌, ◌%◌, ◌^◌, ◌<◌, ◌≤◌, List, ◌∷◌, ◌++◌, Option, MatchOption, length, take, drop, replicate, Result, IfOk, IfErr, IsOk, OnOk, OnErr}
use Rattle.std.specs.Result.{IsErrAnd}
use Rattle.capnp_frame.specs.declared.error.Error.{Error}
use Rattle.capnp_frame.specs.declared.error.ErrorKind.{ErrorKind}
use Rattle.capnp_frame.specs.declared.error.ErrorKind.TheVariants.{OutOfMemory, AllocationTooLarge}
use Rattle.capnp_layout.specs.Prelude.{words_of}

-- what contracts see of a segment: its bytes, the most that it can have, where that is known, and how many
-- fit the memory that it has
pub record Segment : Type 0 where
  pub bytes : List ℕ
  pub most : Option ℕ
  pub capacity : ℕ

-- the words after the root's
abbrev pub body_of : Segment → List ℕ
body_of segment = drop 1 (words_of segment.bytes)

-- it is whole words, at least the root's, and no more than a pointer can reach
pub record IsSegment (segment : Segment) : Type 0 where
  pub whole : length segment.bytes % 8 ≡ 0
  pub rooted : 8 ≤ length segment.bytes
  pub few : length segment.bytes < 2 ^ 32

-- the root's word alone, which is null, in the same memory
abbrev pub with_root_alone : Segment → Segment
with_root_alone segment = record { bytes = replicate 8 0; most = segment.most; capacity = segment.capacity }

-- This many words are appended; all others stay, the root's among them.
pub record Appends (words : ℕ) (old new : Segment) : Type 0 where
  pub block : List ℕ
  pub len : length block ≡ 8 * words
  pub bytes_are : new.bytes ≡ old.bytes ++ block
  pub body_is : body_of new ≡ body_of old ++ words_of block

-- the memory that it has holds this many more words
abbrev pub GrantsWords : ℕ → Segment → Type 0
GrantsWords words segment = length segment.bytes + 8 * words ≤ segment.capacity

-- it can't have this many more words
abbrev pub IsPastMost : ℕ → Segment → Type 0
IsPastMost words segment = MatchOption segment.most ⊥ (λ most. most < length segment.bytes + 8 * words)

-- why this many more words can't be appended: a region is full, or the heap is out of memory
abbrev pub AppendingError : ℕ → Segment → ErrorKind → Type 0
AppendingError words segment kind = (segment.capacity < length segment.bytes + 8 * words)
    × MatchOption segment.most (kind ≡ OutOfMemory) (λ most. (most < length segment.bytes + 8 * words) × (kind ≡ AllocationTooLarge words))

-- An object of this many words is appended. `holds` says what it is, given the bodies before and after that
-- and the object's word.
pub record AppendsObject (holds : List ℕ → List ℕ → ℕ → Type 0) (words : ℕ) (old new : Segment) (result : Result ℕ Error) : Type 0 where
  pub appended : OnOk result (Appends words old new)
  pub holds_is : IfOk result (λ word. holds (body_of old) (body_of new) word)
  pub unchanged : OnErr result (new ≡ old)
  pub kind : IfErr result (λ error. AppendingError words old error.kind)
  pub granted : GrantsWords words old → IsOk result
  pub past_most : IsPastMost words old → IsErrAnd result (λ error. error.kind ≡ AllocationTooLarge words)
  pub most : new.most ≡ old.most
  pub memory : old.capacity ≤ new.capacity
  pub within_memory : OnOk result (length new.bytes ≤ new.capacity)

-- the root's word is replaced by this one
pub record PutsRoot (word : ℕ) (old new : Segment) : Type 0 where
  pub words_are : words_of new.bytes ≡ word ∷ body_of old
  pub len : length new.bytes ≡ length old.bytes
  pub most : new.most ≡ old.most
  pub memory : new.capacity ≡ old.capacity

-- a block of this many words is written over the bytes from this one on, and `holds` is true of it once it
-- follows a body
pub record IsWrittenOver (from words : ℕ) (holds : List ℕ → List ℕ → ℕ → Type 0) (word : ℕ) (old new : List ℕ) : Type 0 where
  pub block : List ℕ
  pub block_long : length block ≡ 8 * words
  pub bytes_are : take (from + 8 * words) new ≡ take from old ++ block
  pub len : length new ≡ length old
  pub holds_is : (body : List ℕ) → from / 8 ≡ 1 + length body → holds body (body ++ words_of block) word
