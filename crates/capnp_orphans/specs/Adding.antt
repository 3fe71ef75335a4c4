-- What calls that write objects do (src/orphanage.rt). In each record `old` and `new` are the segment before
-- the call and after it.
use Rattle.std.specs.Prelude.{◌≡◌, ◌⊎◌, ℕ, ◌+◌, ◌*◌, ◌/◌, ◌^◌, ◌<◌, ◌≤◌, [], ◌∷◌, ◌++◌, List, length, Result, IfOk, IfErr, IsOk, OnOk, OnErr}
use Rattle.std.specs.Result.{IsErrAnd}
use Rattle.capnp_frame.specs.declared.error.Error.{Error}
use Rattle.capnp_frame.specs.declared.error.ErrorKind.{ErrorKind}
use Rattle.capnp_frame.specs.declared.error.ErrorKind.TheVariants.{AllocationTooLarge}
use Rattle.capnp_layout.specs.Prelude.{words_of, message_of, Form, Trees, Root}
use Rattle.capnp_orphans.specs.Orphans.{link, IsOrphan}
use Rattle.capnp_orphans.specs.Segments.{Segment, body_of, Appends, GrantsWords, IsPastMost, AppendingError}

-- the orphans of trees are still orphans of these trees
abbrev pub Keeps : Segment → Segment → Type 0
Keeps old new = (word : ℕ) (form : Form) (children : Trees) → IsOrphan (body_of old) word form children → IsOrphan (body_of new) word form children

-- What one call, or several, have added: an orphan. `holds` says what it is, given the body and the orphan's
-- word.
pub record AddsOrphan {T : Type 0} (holds : List ℕ → ℕ → Type 0) (old new : Segment) (word : T → ℕ) (result : Result T Error) : Type 0 where
  -- all orphans keep their trees, also after a failure
  pub keeps : Keeps old new
  -- what the new orphan is
  pub orphan : IfOk result (λ object. holds (body_of new) (word object))

-- there is no room for this many words: the segment would have 2 ^ 29 or more, or has no memory for them
abbrev pub RoomError : ℕ → Segment → ErrorKind → Type 0
RoomError words segment kind = ((2 ^ 29 ≤ length segment.bytes / 8 + words) × (kind ≡ AllocationTooLarge words))
    ⊎ ((length segment.bytes / 8 + words < 2 ^ 29) × AppendingError words segment kind)

-- there is room for this many words for sure
abbrev pub SegmentHasRoom : ℕ → Segment → Type 0
SegmentHasRoom words segment = (length segment.bytes / 8 + words < 2 ^ 29) × GrantsWords words segment

-- When a call that writes an object fails: `takes` says how many words the object has, and `fails` with
-- which kinds it fails.
pub record FailsToAdd {T : Type 0} (takes : ℕ → Type 0) (fails : ErrorKind → Type 0) (old : Segment) (result : Result T Error) : Type 0 where
  -- it fails with a kind of the object, or because there is no room for its words
  pub kind : IfErr result (λ error. fails error.kind ⊎ ((words : ℕ) × takes words × RoomError words old error.kind))
  -- an object that fails is not written
  pub exact : (kind : ErrorKind) → fails kind → IsErrAnd result (λ error. error.kind ≡ kind)
  -- an object is written where the memory that is there has room
  pub fits : (words : ℕ) → takes words → SegmentHasRoom words old → IsOk result
  -- it fails with its words where a segment would have 2 ^ 29 words, or a region more than it has room for
  pub long : (words : ℕ) → takes words → 2 ^ 29 ≤ length old.bytes / 8 + words → IsErrAnd result (λ error. error.kind ≡ AllocationTooLarge words)
  pub full : (words : ℕ) → takes words → IsPastMost words old → IsErrAnd result (λ error. error.kind ≡ AllocationTooLarge words)

-- What one call that adds an object writes.
pub record Writes {T : Type 0} (takes : ℕ → Type 0) (fails : ErrorKind → Type 0) (old new : Segment) (result : Result T Error) : Type 0 where
  -- exactly the object's words are appended, and no other word changes
  pub appended : OnOk result ((words : ℕ) × takes words × Appends words old new)
  -- after a failure nothing has changed
  pub unchanged : OnErr result (new ≡ old)
  pub failing : FailsToAdd takes fails old result
  pub most : new.most ≡ old.most
  -- the memory stays, and the bytes are in it
  pub memory : old.capacity ≤ new.capacity
  pub within_memory : OnOk result (length new.bytes ≤ new.capacity)

-- What setting the root to the orphan of this word does.
pub record SetsRootOrphan (word : ℕ) (old new : Segment) : Type 0 where
  -- all words except the root's stay, so all orphans keep their trees
  pub body_is : body_of new ≡ body_of old
  -- the root's word is the pointer to the orphan, whatever the orphan is
  pub words_are : words_of new.bytes ≡ link word 0 ∷ body_of old
  -- the root is the orphan's tree
  pub root_is : (form : Form) (children : Trees) → IsOrphan (body_of old) word form children
      → (traversed : ℕ) × Root (message_of (new.bytes ∷ [])) form children traversed
  pub len : length new.bytes ≡ length old.bytes
  pub most : new.most ≡ old.most
  pub memory : new.capacity ≡ old.capacity

-- What adding an object as the root does; `takes` says how many words it has.
pub record AddsRoot (takes : ℕ → Type 0) (holds : List ℕ → ℕ → Type 0) (old new : Segment) (result : Result (Unit {0}) Error) : Type 0 where
  -- all orphans keep their trees, also after a failure
  pub keeps : Keeps old new
  -- the root is the tree of an orphan that `holds` describes, and its word is the pointer to the orphan,
  -- whatever the orphan is
  pub root_is : OnOk result ((word : ℕ) × holds (body_of new) word
      × ((form : Form) (children : Trees) → IsOrphan (body_of new) word form children → (traversed : ℕ) × Root (message_of (new.bytes ∷ [])) form children traversed)
      × (words_of new.bytes ≡ link word 0 ∷ body_of new))
  -- exactly the object's words are appended, and among the others only the root's may change
  pub appended : OnOk result ((words : ℕ) × takes words × ((block : List ℕ) × (length block ≡ words) × (body_of new ≡ body_of old ++ block)))
  pub long : OnOk result ((words : ℕ) × takes words × (length new.bytes ≡ length old.bytes + 8 * words))
  -- after a failure nothing has changed, not even the root
  pub unchanged : OnErr result (new ≡ old)
  pub most : new.most ≡ old.most
  -- the memory stays, and the bytes are in it
  pub memory : old.capacity ≤ new.capacity
  pub within_memory : OnOk result (length new.bytes ≤ new.capacity)
