-- What drafts take from structs that are read (src/copied.rt).
use Rattle.std.specs.Prelude.{◌≡◌, ◌⊎◌, ℕ, zero, suc, ◌+◌, ◌-◌, ◌/◌, ◌^◌, ◌<◌, ◌≤◌, min, false, List, [], ◌∷◌, ◌++◌, length, take, replicate, slice_index_or, Result, IfOk, IfErr, IsOk, OnOk}
use Rattle.std.specs.Result.{IsErrAnd}
use Rattle.capnp_frame.specs.declared.error.Error.{Error}
use Rattle.capnp_frame.specs.declared.error.ErrorKind.{ErrorKind}
use Rattle.capnp_frame.specs.declared.error.ErrorKind.TheVariants.{AllocationTooLarge}
use Rattle.capnp_layout.specs.Prelude.{nothing, Trees, total_words}
use Rattle.capnp_wire.specs.Prelude.{HasWords, WordsError, PointsToTree, WalkErrorFrom, Struct, Pointer, Denotes, pointer_in}
use Rattle.capnp_orphans.specs.Segments.{Segment, body_of, Appends, IsPastMost}
use Rattle.capnp_orphans.specs.Holds.{AreValues}
use Rattle.capnp_orphans.specs.Adding.{Keeps, RoomError, SegmentHasRoom}

-- the data words of a struct, cut to this many or filled up with zeros
abbrev pub data_up_to : Struct → ℕ → List ℕ
data_up_to fields count = take count (fields.words ++ replicate count 0)

-- its first pointers, null past the last one
abbrev pub pointers_up_to : Struct → ℕ → List Pointer
pointers_up_to fields zero = []
pointers_up_to fields (suc count) = pointers_up_to fields count ++ pointer_in fields count ∷ []

-- how many words a copy of what a pointer points to has, and why there is no copy
abbrev pub TakesCopy : Pointer → ℕ → Type 0
TakesCopy pointer words = HasWords (PointsToTree pointer) false words

abbrev pub CopyError : Pointer → ErrorKind → Type 0
CopyError pointer kind = WordsError (PointsToTree pointer) (WalkErrorFrom pointer) false kind

-- how many words the copies of what a struct's first pointers point to have
abbrev pub TakesCopies : Struct → ℕ → ℕ → Type 0
TakesCopies fields zero words = words ≡ 0
TakesCopies fields (suc count) words =
    (before last : ℕ) × TakesCopies fields count before × TakesCopy (pointer_in fields count) last × (words ≡ before + last)

-- Where copying fails: the pointers before this one are copied, and this one can't be copied, or there is
-- no room for its words.
pub record CopyFailsAt (fields : Struct) (count : ℕ) (old new : Segment) (kind : ErrorKind) : Type 0 where
  pub index : ℕ
  pub before : ℕ
  pub within : index < count
  pub taken : TakesCopies fields index before
  pub appended : Appends before old new
  pub cause : CopyError (pointer_in fields index) kind ⊎ ((words : ℕ) × TakesCopy (pointer_in fields index) words × RoomError words new kind)

-- What copying the first pointers of a struct does. `old` and `new` are the segment before and after it.
pub record CopiesPointers {T : Type 0} (fields : Struct) (count : ℕ) (old new : Segment) (pointers : T → List ℕ) (result : Result T Error) : Type 0 where
  -- each orphan is of the tree that the pointer points to, and null stays null
  pub copies : IfOk result (λ made. AreValues PointsToTree (body_of new) (pointers_up_to fields count) (pointers made))
  pub nulls : (index : ℕ) → index < count → Denotes (pointer_in fields index) nothing → IfOk result (λ made. slice_index_or (pointers made) index 0 ≡ 0)
  -- all orphans keep their trees, also after a failure
  pub keeps : Keeps old new
  -- exactly the copies are appended
  pub appended : OnOk result ((words : ℕ) × TakesCopies fields count words × Appends words old new)
  -- it fails at the first pointer that can't be copied, or whose copy there is no room for
  pub kind : IfErr result (λ error. CopyFailsAt fields count old new error.kind)
  -- it succeeds where the memory that is there has room for the copies
  pub fits : (words : ℕ) → TakesCopies fields count words → SegmentHasRoom words old → IsOk result
  -- where there is room for the copies before it, it fails at a pointer that can't be read, or that points to
  -- 2 ^ 29 words or more
  pub exact : (index before : ℕ) (kind : ErrorKind) → index < count → TakesCopies fields index before → SegmentHasRoom before old
      → WalkErrorFrom (pointer_in fields index) kind → IsErrAnd result (λ error. error.kind ≡ kind)
  pub large : (index before : ℕ) (trees : Trees) → index < count → TakesCopies fields index before → SegmentHasRoom before old → PointsToTree (pointer_in fields index) trees
      → 2 ^ 29 ≤ total_words trees → IsErrAnd result (λ error. error.kind ≡ AllocationTooLarge (min (total_words trees) (2 ^ 32 - 1)))
  -- also at one with which a segment would have 2 ^ 29 words, or a region more than it has room for
  pub long : (index before words : ℕ) → index < count → TakesCopies fields index before → SegmentHasRoom before old → TakesCopy (pointer_in fields index) words
      → 2 ^ 29 ≤ length old.bytes / 8 + before + words → IsErrAnd result (λ error. error.kind ≡ AllocationTooLarge words)
  pub full : (index before words : ℕ) → index < count → TakesCopies fields index before → SegmentHasRoom before old → TakesCopy (pointer_in fields index) words
      → IsPastMost (before + words) old → IsErrAnd result (λ error. error.kind ≡ AllocationTooLarge words)
  pub most : new.most ≡ old.most
  -- the memory stays, and the bytes are in it; after a failure, too, where they were in it before
  pub memory : old.capacity ≤ new.capacity
  pub within_memory : OnOk result (0 < count → length new.bytes ≤ new.capacity)
  pub stays_within : length old.bytes ≤ old.capacity → length new.bytes ≤ new.capacity
