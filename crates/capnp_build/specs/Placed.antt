-- Where the block of the root is placed in a message that is built, and what it leaves once it is cleared.
use Rattle.std.specs.Prelude.{⊤, ◌≡◌, ◌⊎◌, ℕ, ◌+◌, ◌*◌, ◌/◌, ◌^◌, ◌<◌, ◌≤◌, min, max, false, List, [], ◌∷◌, ◌++◌, length, Option, Some, None, MatchOption}
use Rattle.std.specs.Prelude.{take, drop, replicate}
use Rattle.capnp_frame.specs.declared.error.ErrorKind.{ErrorKind}
use Rattle.capnp_frame.specs.declared.error.ErrorKind.TheVariants.{OutOfMemory, AllocationTooLarge}
use Rattle.capnp_layout.specs.Prelude.{Form, null, none, tree}
use Rattle.capnp_wire.specs.Prelude.{HasWords}
use Rattle.capnp_build.specs.Bytes.{Space}
use Rattle.capnp_build.specs.Out.{AllocationError}
use Rattle.capnp_build.specs.BuilderState.{BuilderState, space_at, free_words_of, KeepsOthers}
use Rattle.capnp_build.specs.declared.allocator.Allocator.{Ghosts}
use Rattle.capnp_build.specs.declared.arena.location.RootLocation.{RootLocation}
use Rattle.capnp_build.specs.Built.{size_in_words, HasNullRoot, Built, state_of, ForRoot, KeepsOutside}

-- no segment has room for a block of this many words, nor one after the first for it and its
-- landing pad
pub record HasNoRoom (spaces : List Space) (words : ℕ) : Type 0 where
  pub first : free_words_of (space_at spaces 0) < words
  pub others : (i : ℕ) → 0 < i → i < length spaces → free_words_of (space_at spaces i) < words + 1

-- a request of this many words may fail with this kind
abbrev pub AllocatorError : {A S : Type 0} → Ghosts A S → A → ℕ → ErrorKind → Type 0
AllocatorError alloc allocator asked kind = alloc.fails allocator asked kind × AllocationError asked kind

-- a further segment of this many words can't be had: there are as many segments as there may be,
-- the list of those after the first can't grow, or the allocator fails
abbrev pub SegmentError : {A S : Type 0} → Ghosts A S → BuilderState A → ℕ → ErrorKind → Type 0
SegmentError alloc state asked kind =
    ((2 ^ 32 ≤ length state.spaces + 1) × (kind ≡ AllocationTooLarge asked))
    ⊎ ((length state.spaces + 1 < 2 ^ 32) × (((0 < length state.spaces) × (kind ≡ OutOfMemory)) ⊎ AllocatorError alloc state.allocator asked kind))

-- there is no room in these segments once the old root is cleared: the value has this many words, no segment
-- has room for them, and a further segment can't be had
pub record FindsNoRoom {A S : Type 0} (alloc : Ghosts A S) (measured : ℕ → Type 0) (old : Built A) (spaces : List Space) (kind : ErrorKind) : Type 0 where
  pub words : ℕ
  pub words_are : measured words
  pub full : HasNoRoom spaces words
  -- the allocator that is asked; where there was a segment, it is as before the call
  pub asked : A
  pub segment_error : SegmentError alloc (record { spaces = spaces; allocator = asked }) (words + 1) kind
  pub stays : 0 < length old.spaces → asked ≡ old.allocator
  pub same : alloc.same old.allocator asked

-- the words of a new object, and of one that an init gives
abbrev pub NewWords : Form → ℕ → Type 0
NewWords form words = HasWords (λ trees. trees ≡ tree form none none) false words

abbrev pub InitWords : (ℕ → Form → Type 0) → ℕ → ℕ → Type 0
InitWords inits n words = (form : Form) × inits n form × NewWords form words

-- one segment more, with no used words
abbrev pub IsAdded : List Space → List Space → Type 0
IsAdded old new = (space : Space) × (new ≡ old ++ space ∷ []) × (space.used ≡ [])

-- a block of this many words is after the used words of a segment and a landing pad of
-- `landing_pad` words
pub record IsAtEnd (old : List Space) (location : Option RootLocation) (segment landing_pad words : ℕ) : Type 0 where
  pub place : RootLocation
  pub place_is : location ≡ Some place
  pub segment_is : place.segment ≡ segment
  pub words_are : place.words ≡ words
  pub start_is : 8 * place.start ≡ length (space_at old segment).used + 8 * landing_pad

-- a block of this many words is in the first segment where that has room. Else it is after a landing pad, in
-- the first segment with room for both, or else in a new one. No other words are taken.
pub record IsPlaced {A : Type 0} (old : List Space) (new : Built A) (words : ℕ) : Type 0 where
  pub local : words ≤ free_words_of (space_at old 0) → IsAtEnd old new.location 0 0 words × (length new.spaces ≡ length old)
      × (size_in_words new.spaces ≡ size_in_words old + words)
  pub far : free_words_of (space_at old 0) < words → (segment : ℕ) × (0 < segment) × IsAtEnd old new.location segment 1 words
      × ((i : ℕ) → 0 < i → i < segment → free_words_of (space_at old i) < words + 1) × (segment ≤ length old)
      × (length new.spaces ≡ max (length old) (segment + 1)) × (size_in_words new.spaces ≡ size_in_words old + words + 1)

-- the same segments with as many free words, where there were some
abbrev pub KeepsRooms : List Space → List Space → Type 0
KeepsRooms old last = 0 < length old → (length last ≡ length old) × ((i : ℕ) → free_words_of (space_at last i) ≡ free_words_of (space_at old i))

-- all bytes of a block are zero
abbrev pub IsZeroAt : List Space → RootLocation → Type 0
IsZeroAt spaces location = take (8 * location.words) (drop (8 * location.start) (space_at spaces location.segment).used) ≡ replicate (8 * location.words) 0

-- one segment, where only the root's word is used
abbrev pub HasRootAlone : List Space → Type 0
HasRootAlone spaces = (length spaces ≡ 1) × (length (space_at spaces 0).used ≡ 8) × (8 ≤ (space_at spaces 0).size)

-- after an error: a null root, the old block zero, and no words taken but the root's own
pub record IsCleared {A S : Type 0} (alloc : Ghosts A S) (old last : Built A) : Type 0 where
  pub null : last.location ≡ None
  pub null_word : HasNullRoot last.spaces
  pub zero : MatchOption old.location ⊤ (IsZeroAt last.spaces)
  pub size : size_in_words last.spaces ≤ max 1 (size_in_words old.spaces)
  pub rooms : KeepsRooms old.spaces last.spaces
  -- no other used word changes
  pub outside : KeepsOutside old.location old.spaces last.spaces
  -- where there was no segment, there is none yet, or one where only the root's word is used
  pub new_object : old.spaces ≡ [] → (last.spaces ≡ []) ⊎ HasRootAlone last.spaces
  pub same_allocator : alloc.same old.allocator last.allocator
  -- what else the allocator has out stays out
  pub others : KeepsOthers alloc.out (state_of old) (state_of last)

-- a block of this many words is in a segment, from this word on
pub record BlockIsAt (location : Option RootLocation) (segment start words : ℕ) : Type 0 where
  pub place : RootLocation
  pub place_is : location ≡ Some place
  pub segment_is : place.segment ≡ segment
  pub start_is : place.start ≡ start
  pub words_are : place.words ≡ words

-- the words of a segment that may be used
abbrev pub most_words : Space → ℕ
most_words space = min (space.size / 8) (2 ^ 29)

-- the first block of a message, of this many words: just after the root's word where the first segment has
-- room, else after its landing pad at the front of a second one. No other words are used.
pub record IsFirst {A : Type 0} (new : Built A) (words : ℕ) : Type 0 where
  pub local : words < most_words (space_at new.spaces 0) → BlockIsAt new.location 0 1 words × (length new.spaces ≡ 1) × (size_in_words new.spaces ≡ 1 + words)
  pub far : most_words (space_at new.spaces 0) ≤ words → BlockIsAt new.location 1 1 words × (length new.spaces ≡ 2) × (size_in_words new.spaces ≡ 2 + words)

-- where the first segment has to be granted, it is the granted one, of this many words
abbrev pub IsGranted : {A S : Type 0} → Ghosts A S → Built A → List Space → Type 0
IsGranted alloc old spaces = old.spaces ≡ [] → (most : ℕ) → alloc.grants old.allocator 1 most → (space_at spaces 0).size / 8 ≡ most

-- a block is placed once the old root is cleared, with a number of words for which `measured` holds
pub record IsPut {A S : Type 0} (alloc : Ghosts A S) (measured : ℕ → Type 0) (old new : Built A) : Type 0 where
  pub cleared : Built A
  pub words : ℕ
  pub is_cleared : IsCleared alloc old cleared
  pub words_are : measured words
  pub placed : IsPlaced cleared.spaces new words
  pub first : old.spaces ≡ [] → IsFirst new words
  pub granted : IsGranted alloc old new.spaces
  -- the old block stays zero, and no other used word changes but the root's
  pub zero : MatchOption old.location ⊤ (IsZeroAt new.spaces)
  pub outside : KeepsOutside old.location old.spaces new.spaces

-- a new object, with a number of words for which `measured` holds, is placed once the old root is cleared, or
-- the root is the null that this leaves
pub record IsInit {A S : Type 0} (alloc : Ghosts A S) (measured : ℕ → Type 0) (old new : Built A) : Type 0 where
  pub cleared : Built A
  pub is_cleared : IsCleared alloc old cleared
  pub block : (new ≡ cleared) ⊎ ((words : ℕ) × measured words × IsPlaced cleared.spaces new words × (old.spaces ≡ [] → IsFirst new words))
  pub granted : IsGranted alloc old new.spaces
  -- the old block stays zero, and no other used word changes but the root's
  pub zero : MatchOption old.location ⊤ (IsZeroAt new.spaces)
  pub outside : KeepsOutside old.location old.spaces new.spaces

-- no room: once the old root is cleared, no segment has room for a block of words for which `measured` holds,
-- and a further segment can't be had
pub record FoundNoRoom {A S : Type 0} (alloc : Ghosts A S) (measured : ℕ → Type 0) (old : Built A) (kind : ErrorKind) : Type 0 where
  pub cleared : Built A
  pub is_cleared : IsCleared alloc old cleared
  pub no_room : FindsNoRoom alloc measured old cleared.spaces kind

-- after a look at the root, everything is as it was, except that there is a null root where there
-- was no segment
pub record IsLookedAt {A S : Type 0} (alloc : Ghosts A S) (old last : Built A) : Type 0 where
  pub stays : 0 < length old.spaces → last ≡ old
  pub null_word : old.spaces ≡ [] → HasNullRoot last.spaces
  pub size : size_in_words last.spaces ≤ max 1 (size_in_words old.spaces)
  -- where there was no segment, there is none yet, or one where only the root's word is used
  pub new_object : old.spaces ≡ [] → (last.spaces ≡ []) ⊎ HasRootAlone last.spaces
  pub granted : IsGranted alloc old last.spaces
  pub same_allocator : alloc.same old.allocator last.allocator
  -- what else the allocator has out stays out
  pub others : KeepsOthers alloc.out (state_of old) (state_of last)

-- a type rejects the root, which is null where there is no segment
abbrev pub RootFormError : (Form → ErrorKind → Type 0) → List Space → ErrorKind → Type 0
RootFormError form_error [] kind = form_error null kind
RootFormError form_error (space ∷ spaces) kind = ForRoot (space ∷ spaces) (λ form. form_error form kind)
