-- What is kept by the steps that place a value where the root is null (src/arena/placing.rt,
-- src/pointing.rt).
use Rattle.std.specs.Prelude.{⊤, ◌≡◌, ℕ, ◌+◌, ◌*◌, Bool, ◌<◌, ◌≤◌, max, take, drop, List, length, Option, None, MatchOption, Result, IfErr, OnOk, OnErr}
use Rattle.capnp_frame.specs.declared.error.Error.{Error}
use Rattle.capnp_frame.specs.declared.error.ErrorKind.TheVariants.{SegmentTaken}
use Rattle.capnp_layout.specs.Prelude.{Form, Trees, none, Root}
use Rattle.capnp_build.specs.declared.allocator.Allocator.{Ghosts}
use Rattle.capnp_build.specs.declared.arena.location.RootLocation.{RootLocation}
use Rattle.capnp_build.specs.Bytes.{Space}
use Rattle.capnp_build.specs.Out.{Out, HasLarge}
use Rattle.capnp_build.specs.BuilderState.{BuilderState, space_at, pairs, KeepsOthers}
use Rattle.capnp_build.specs.Built.{Built, state_of, message, size_in_words, HasNullRoot, IsSet, HasBody, IsLaid, IsRewritten, KeepsBytes, KeepsOutside}
use Rattle.capnp_build.specs.Placed.{IsAtEnd, IsPlaced, HasNoRoom, SegmentError, IsZeroAt, KeepsRooms}

-- a new object is at the root
abbrev pub IsNew : Form → List Space → Type 0
IsNew form spaces = (traversed : ℕ) × Root (message spaces) form none traversed

-- A block of this many words is placed where the root is null, and the root is then as `root_is`
-- says, or nothing changes.
pub record PutsBlock {A S : Type 0} (alloc : Ghosts A S) (root_is : List Space → Type 0) (words : ℕ) (old new : Built A)
    (result : Result (Unit {0}) Error) : Type 0 where
  pub set : OnOk result (root_is new.spaces)
  pub placed : OnOk result (IsPlaced old.spaces new words)
  pub there : OnOk result (0 < length new.spaces)
  pub bytes : OnOk result (KeepsBytes old.spaces new.spaces)
  pub sizes : OnOk result ((i : ℕ) → i < length old.spaces → (space_at new.spaces i).size ≡ (space_at old.spaces i).size)
  pub errors : OnErr result (new.location ≡ None)
  pub kept : OnErr result (new.spaces ≡ old.spaces)
  pub kind : IfErr result (λ error. HasNoRoom old.spaces words × SegmentError alloc (state_of old) (words + 1) error.kind)
  pub taken : IfErr result (λ error. error.kind ≡ SegmentTaken → (others : List Out) → alloc.out old.allocator (pairs old.spaces others)
      → HasLarge (words + 1) (pairs old.spaces others))
  pub same : alloc.same old.allocator new.allocator
  -- what else the allocator has out stays out
  pub others : KeepsOthers alloc.out (state_of old) (state_of new)

-- A value's block is placed in a segment that has room for it, after this many words of a landing
-- pad.
pub record PlacesBlock {A S : Type 0} (alloc : Ghosts A S) (has_tree : Trees → Type 0) (canonical : Bool) (segment landing_pad words : ℕ)
    (old new : Built A) : Type 0 where
  pub set : IsSet has_tree canonical new.spaces
  pub count : length new.spaces ≡ length old.spaces
  pub location : IsAtEnd old.spaces new.location segment landing_pad words
  pub size : size_in_words new.spaces ≡ size_in_words old.spaces + words + landing_pad
  pub bytes : KeepsBytes old.spaces new.spaces
  pub sizes : (i : ℕ) → (space_at new.spaces i).size ≡ (space_at old.spaces i).size
  pub same : new.allocator ≡ old.allocator
  -- what else the allocator has out stays out
  pub others : KeepsOthers alloc.out (state_of old) (state_of new)

-- The root's word points to the body at a location; no segment becomes longer.
pub record PointsRoot {A : Type 0} (location : RootLocation) (old new : BuilderState A) : Type 0 where
  pub is_laid : (form : Form) (children : Trees) → HasBody old.spaces location form children → IsLaid new.spaces location form children
  pub rewritten : IsRewritten old new
  -- the used bytes before the body and its landing pad stay, except for the root's word
  pub bytes : (i from n : ℕ) → (i ≡ 0 → 8 ≤ from) → (0 < i → i ≡ location.segment → from + n + 8 ≤ 8 * location.start) → from + n ≤ length (space_at old.spaces i).used
      → take n (drop from (space_at new.spaces i).used) ≡ take n (drop from (space_at old.spaces i).used)

-- The root's word and the block that it points to become zero; no segment becomes longer.
pub record ZeroesRoot {A S : Type 0} (alloc : Ghosts A S) (location : Option RootLocation) (old new : BuilderState A) : Type 0 where
  pub null_word : HasNullRoot new.spaces
  pub zero : MatchOption location ⊤ (IsZeroAt new.spaces)
  pub following : MatchOption location ⊤ (λ place. 0 < place.start)
  pub count : length new.spaces ≡ length old.spaces
  pub size : size_in_words new.spaces ≡ max 1 (size_in_words old.spaces)
  pub rooms : KeepsRooms old.spaces new.spaces
  pub outside : KeepsOutside location old.spaces new.spaces
  pub allocator : new.allocator ≡ old.allocator
  -- what else the allocator has out stays out
  pub others : KeepsOthers alloc.out old new

-- A step leaves the root null.
pub record LeavesNull {A S : Type 0} (alloc : Ghosts A S) (old new : Built A) : Type 0 where
  pub null : new.location ≡ None
  pub same : alloc.same old.allocator new.allocator
  -- what else the allocator has out stays out
  pub others : KeepsOthers alloc.out (state_of old) (state_of new)
