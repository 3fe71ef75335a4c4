-- What is at the root of a message, and why a root is not set.
use Rattle.std.specs.Prelude.{◌≡◌, ◌⊎◌, ℕ, List, [], map, slice_set, Bool, false, Option, Some, Result, IfOk, OnOk, IfErr}
use Rattle.capnp_frame.specs.declared.error.Error.{Error}
use Rattle.capnp_frame.specs.declared.error.ErrorKind.{ErrorKind}
use Rattle.capnp_frame.specs.declared.error.ErrorKind.TheVariants.{MessageTooLarge, OutOfMemory, PrematureEndOfFile}
use Rattle.capnp_frame.specs.declared.message.options.ReaderOptions.{ReaderOptions}
use Rattle.capnp_frame.specs.declared.serialize.segment_table.Padding.TheVariants.{Zero}
use Rattle.capnp_frame.specs.Prelude.{KeepsLimit, default_limit, lengths, size_in_words, IsTooLarge, IsWithinSegmentLimit, SegmentCountError}
use Rattle.capnp_wire.specs.Prelude.{Form, struct, Trees, none, tree, message_of, root, Root, NoWord, default_root, ViewError, TakesStruct, StructFormError, HasWords, WordsError}
use Rattle.capnp_build.specs.declared.allocator.Allocator.{Ghosts}
use Rattle.capnp_build.specs.Prelude.{Space, Built, message, IsSet, FindsNoRoom, FoundNoRoom, InitWords, IsCleared, IsPut, FirstSegmentError, FailsFirstSegment, ClearedRootError, used_of}
use Rattle.capnp.specs.declared.streams.Format.TheVariants.{Packed}
use Rattle.capnp.specs.Prelude.{HasRootTree, FoundNext, TakesForNext, EndsBy, output_of}

-- an object without pointers is at the root of these segments
abbrev pub HasPlainRoot : List (List ℕ) → Form → Type 0
HasPlainRoot segments form = (traversed : ℕ) × Root (message_of segments) form none traversed

-- and at the root of a message that is built
abbrev pub HasRootForm : List Space → Form → Type 0
HasRootForm spaces form = HasPlainRoot (map used_of spaces) form

-- the tree of a value is at the root
abbrev pub HasRootOf : (Trees → Type 0) → List (List ℕ) → Type 0
HasRootOf has_tree segments = (trees : Trees) × has_tree trees × HasRootTree segments trees

-- An object of this form is not made the root: the request of the first segment fails, or no
-- segment has room once the old root is cleared.
abbrev pub RootRoomError : {A S : Type 0} → Ghosts A S → Form → Built A → ErrorKind → Type 0
RootRoomError alloc form old kind = FirstSegmentError alloc old kind ⊎ FoundNoRoom alloc (InitWords (λ n made. made ≡ form) 0) old kind

-- The root is not set to a value: measuring it fails, the request of the first segment fails, or no
-- segment has room.
abbrev pub SetRootError : {A S : Type 0} → Ghosts A S → (Trees → Type 0) → (ErrorKind → Type 0) → Built A → Built A → ErrorKind → Type 0
SetRootError alloc has_tree fails old new kind =
    WordsError has_tree fails false kind ⊎ FailsFirstSegment alloc old new.spaces kind ⊎ FindsNoRoom alloc (HasWords has_tree false) old new.spaces kind

-- nor to its canonical form
abbrev pub SetCanonicalError : {A S : Type 0} → Ghosts A S → (Trees → Type 0) → (ErrorKind → Type 0) → Built A → Built A → ErrorKind → Type 0
SetCanonicalError alloc has_tree fails old new kind = FailsFirstSegment alloc old new.spaces kind ⊎ ClearedRootError has_tree fails new.spaces kind

-- Why a value is not set, and what that leaves: a null root.
pub record StaysUnset {A S : Type 0} (alloc : Ghosts A S) (has_tree : Trees → Type 0) (fails : ErrorKind → Type 0) (old new : Built A) (kind : ErrorKind) : Type 0 where
  pub cleared : IsCleared alloc old new
  -- it fails as `set_root` does
  pub errors : SetRootError alloc has_tree fails old new kind

-- Why a value's canonical form is not made the root, and what that leaves: a null root.
pub record StaysWithoutForm {A S : Type 0} (alloc : Ghosts A S) (has_tree : Trees → Type 0) (fails : ErrorKind → Type 0) (old new : Built A) (kind : ErrorKind) : Type 0 where
  pub cleared : IsCleared alloc old new
  pub errors : SetCanonicalError alloc has_tree fails old new kind

-- Why a message whose root is set is not written, and what that leaves: the value at the root.
pub record StaysUnwritten {A S : Type 0} (alloc : Ghosts A S) (has_tree : Trees → Type 0) (canonical : Bool) (old new : Built A) (kind : ErrorKind) : Type 0 where
  pub set : IsSet has_tree canonical new.spaces
  pub placed : IsPut alloc (HasWords has_tree canonical) old new
  -- it has too many segments, or the call is out of memory
  pub errors : SegmentCountError (output_of new) kind ⊎ (kind ≡ OutOfMemory)

-- the message has more words than the limit, and the error carries their number
abbrev pub MessageSizeError : List (List ℕ) → Option ℕ → ErrorKind → Type 0
MessageSizeError message limit kind = IsTooLarge (lengths message) limit × (kind ≡ MessageTooLarge (size_in_words message))

-- a message is not written and read back: it has too many segments or words, or the call is out of memory
abbrev pub ReadAgainError : List (List ℕ) → Option ℕ → ErrorKind → Type 0
ReadAgainError message limit kind = SegmentCountError message kind ⊎ MessageSizeError message limit kind ⊎ (kind ≡ OutOfMemory)

-- The result of a call that writes a message and reads it back with these options. `segments` and
-- `options_of` are what is seen of a reader.
pub record ReadsWritten {X : Type 0} (message : List (List ℕ)) (options : ReaderOptions) (segments : X → List (List ℕ))
    (options_of : X → ReaderOptions) (result : Result X Error) : Type 0 where
  -- the segments that are read are the ones that were written
  pub back : IfOk result (λ reader. segments reader ≡ message)
  -- the segments are within the limit of words, and no more than a reader accepts
  pub size : OnOk result (KeepsLimit (lengths message) options.traversal_limit_in_words)
  pub few : OnOk result (IsWithinSegmentLimit message)
  pub options_are : IfOk result (λ reader. options_of reader ≡ options)
  pub errors : IfErr result (λ error. ReadAgainError message options.traversal_limit_in_words error.kind)

-- Why a message whose root is set is not read back, and what that leaves: the value at the root.
pub record StaysUnread {A S : Type 0} (alloc : Ghosts A S) (has_tree : Trees → Type 0) (limit : Option ℕ) (old new : Built A) (kind : ErrorKind) : Type 0 where
  pub set : IsSet has_tree false new.spaces
  pub placed : IsPut alloc (HasWords has_tree false) old new
  pub errors : ReadAgainError (output_of new) limit kind

-- No struct is read at the root of a packed message: an allocation fails, no message is there, or its root fails.
abbrev pub PackedStructError : List ℕ → ErrorKind → Type 0
PackedStructError encoding kind = ((kind ≡ OutOfMemory) × TakesForNext Zero Packed default_limit encoding) ⊎ EndsBy Zero Packed default_limit (Some kind) encoding
    ⊎ ((encoding ≡ []) × (kind ≡ PrematureEndOfFile))
    ⊎ ((segments : List (List ℕ)) × (rest : List ℕ) × FoundNext Zero Packed default_limit segments encoding rest
    × (NoWord (message_of segments) root kind ⊎ ViewError (default_root segments) StructFormError kind))

-- this word in the place of the first data word of a struct, where it has one
abbrev pub with_first_word : ℕ → Form → Form
with_first_word word (struct words) = struct (slice_set words 0 word)
with_first_word word form = form

-- The root is a value's tree, a struct or null, with this word in the place of the struct's first one.
pub record IsSetWithWord (has_tree : Trees → Type 0) (word : ℕ) (spaces : List Space) : Type 0 where
  pub form : Form
  pub children : Trees
  pub tree_is : has_tree (tree form children none)
  pub taken : TakesStruct form
  pub traversed : ℕ
  pub is_at : Root (message spaces) (with_first_word word form) children traversed
