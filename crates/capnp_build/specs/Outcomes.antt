-- What the calls on the root of a message keep (src/arena, src/view.rt, src/any_pointer.rt). In each record `alloc` is what
-- is seen of the message's allocator (the members of the trait Allocator), and `old` and `new` are the message before the
-- call and after it.
use Rattle.std.specs.Prelude.{⊤, ◌≡◌, ◌⊎◌, ℕ, ◌/◌, ◌<◌, ◌≤◌, max, true, false, List, [], length, MatchOption, None, Result, IfErr, IsOk, OnOk, OnErr}
use Rattle.std.specs.Result.{IsErrAnd}
use Rattle.capnp_frame.specs.declared.error.Error.{Error}
use Rattle.capnp_frame.specs.declared.error.ErrorKind.{ErrorKind}
use Rattle.capnp_frame.specs.declared.error.ErrorKind.TheVariants.{NotOneSegment, SegmentTaken}
use Rattle.capnp_layout.specs.Prelude.{Form, Trees, none, Root}
use Rattle.capnp_wire.specs.Prelude.{HasWords, WordsError}
use Rattle.capnp_build.specs.declared.allocator.Allocator as allocator
use Rattle.capnp_build.specs.declared.owned_builder.OwnedBuilder as owned_builder
use Rattle.capnp_build.specs.Bytes.{Space}
use Rattle.capnp_build.specs.BuilderState.{space_at, free_words_of, BuilderState, KeepsOthers, ReturnsRegion, ReturnsEach}
use Rattle.capnp_build.specs.Built.{Built, state_of, message, size_in_words, HasNullRoot, ForRoot, IsSet, IsWhole, KeepsOutside}
use Rattle.capnp_build.specs.Placed.{AllocatorError, RootFormError, IsPut, IsInit}
use Rattle.capnp_build.specs.Placed.{InitWords, FindsNoRoom, IsCleared, IsZeroAt, KeepsRooms, HasRootAlone, IsLookedAt}

-- there is no segment yet, and the request of the first one, of a word, fails
abbrev pub FirstSegmentError : {A S : Type 0} → allocator.Ghosts A S → Built A → ErrorKind → Type 0
FirstSegmentError alloc old kind = (length old.spaces ≡ 0) × AllocatorError alloc old.allocator 1 kind

-- so there is no segment after the call
abbrev pub FailsFirstSegment : {A S : Type 0} → allocator.Ghosts A S → Built A → List Space → ErrorKind → Type 0
FailsFirstSegment alloc old spaces kind = (spaces ≡ []) × FirstSegmentError alloc old kind

-- the first segment has room for a block of this many words, or has to be granted with that room
abbrev pub HasRoomFirst : {A S : Type 0} → allocator.Ghosts A S → Built A → ℕ → Type 0
HasRoomFirst alloc old words = ((0 < length old.spaces) × (words ≤ free_words_of (space_at old.spaces 0)))
    ⊎ ((old.spaces ≡ []) × ((most : ℕ) × alloc.grants old.allocator 1 most × (words < most)))

-- `fact` holds, where the largest block of words for which `measured` holds has room there
abbrev pub FitsFirst : {A S : Type 0} → allocator.Ghosts A S → (ℕ → Type 0) → Built A → Type 0 → Type 0
FitsFirst alloc measured old fact = (words : ℕ) → measured words → ((other : ℕ) → measured other → other ≤ words) → HasRoomFirst alloc old words → fact

-- `fact` holds of the first action on a message, over an allocator that has to grant the first
-- segment
abbrev pub WhereGranted : {A S : Type 0} → allocator.Ghosts A S → Built A → Type 0 → Type 0
WhereGranted alloc old fact = old.spaces ≡ [] → (most : ℕ) → alloc.grants old.allocator 1 most → fact

-- as the first action, over an allocator that has nothing out, a call fails with SegmentTaken only
-- where `fails` says so
abbrev pub NotExhaustedWhileAvailable : {A S X : Type 0} → allocator.Ghosts A S → (ErrorKind → Type 0) → Built A → Result X Error → Type 0
NotExhaustedWhileAvailable alloc fails old result = old.spaces ≡ [] → alloc.out old.allocator [] → IfErr result (λ error. error.kind ≡ SegmentTaken → fails error.kind)

-- with which error setting a value in canonical form fails once the old root is cleared: the lines
-- are tested in this order
abbrev pub ClearedRootError : (Trees → Type 0) → (ErrorKind → Type 0) → List Space → ErrorKind → Type 0
ClearedRootError has_tree fails spaces kind =
    -- there are more segments
    ((1 < length spaces) × (kind ≡ NotOneSegment))
    -- `measure` fails
    ⊎ ((length spaces ≡ 1) × WordsError has_tree fails true kind)
    -- the segment has no room
    ⊎ ((length spaces ≡ 1) × (kind ≡ NotOneSegment) × ((words : ℕ) × HasWords has_tree true words × (free_words_of (space_at spaces 0) < words)))

-- What setting the root to a value keeps. `has_tree` holds of the value's tree, and `fails` of
-- the kinds with which `measure` fails.
pub record SetsRoot {A S : Type 0} (alloc : allocator.Ghosts A S) (has_tree : Trees → Type 0) (fails : ErrorKind → Type 0)
    (old new : Built A) (result : Result (Unit {0}) Error) : Type 0 where
  pub set : OnOk result (IsSet has_tree false new.spaces)
  -- there is a segment, so the message can be written
  pub there : OnOk result (0 < length new.spaces)
  -- which words it takes, once the old root is cleared
  pub placed : OnOk result (IsPut alloc (HasWords has_tree false) old new)
  -- after a failure the root is null
  pub nulled : OnErr result (IsCleared alloc old new)
  -- it fails as `measure` does, as the allocator fails to hand out the first segment, or where no segment has room
  pub kind : IfErr result (λ error. WordsError has_tree fails false error.kind ⊎ FailsFirstSegment alloc old new.spaces error.kind
      ⊎ FindsNoRoom alloc (HasWords has_tree false) old new.spaces error.kind)
  -- the first segment is asked for before the value is measured
  pub none : new.spaces ≡ [] → IfErr result (λ error. FirstSegmentError alloc old error.kind)
  -- the error of `measure` is returned
  pub exact : (kind : ErrorKind) → WordsError has_tree fails false kind → IsErrAnd result (λ error. (error.kind ≡ kind) ⊎ FailsFirstSegment alloc old new.spaces error.kind)
  -- a value is set where the first segment has room
  pub fits : (words : ℕ) → HasWords has_tree false words → HasRoomFirst alloc old words → IsOk result
  pub available : NotExhaustedWhileAvailable alloc (WordsError has_tree fails false) old result
  pub same : alloc.same old.allocator new.allocator
  -- what else the allocator has out stays out
  pub others : KeepsOthers alloc.out (state_of old) (state_of new)

-- What setting the root to a value in canonical form, in the first segment, keeps.
pub record SetsRootCanonical {A S : Type 0} (alloc : allocator.Ghosts A S) (has_tree : Trees → Type 0) (fails : ErrorKind → Type 0)
    (old new : Built A) (result : Result (Unit {0}) Error) : Type 0 where
  pub set : OnOk result (IsSet has_tree true new.spaces)
  -- which words it takes, once the old root is cleared
  pub placed : OnOk result (IsPut alloc (HasWords has_tree true) old new)
  -- there is one segment, so the message can be written
  pub one : OnOk result (length new.spaces ≡ 1)
  -- as the first action on the message it makes the one segment the canonical form
  pub whole : old.spaces ≡ [] → OnOk result (IsWhole has_tree true new.spaces)
  -- after a failure the root is null
  pub nulled : OnErr result (IsCleared alloc old new)
  -- it fails as the allocator fails to hand out the first segment; once that is there, with the
  -- first line that holds
  pub kind : IfErr result (λ error. FailsFirstSegment alloc old new.spaces error.kind ⊎ ClearedRootError has_tree fails new.spaces error.kind)
  -- where there was a segment, the first line that holds is returned
  pub exact : (kind : ErrorKind) → ClearedRootError has_tree fails old.spaces kind → IsErrAnd result (λ error. error.kind ≡ kind)
  -- the error of `measure` is returned, once the first segment is there
  pub words_error : old.spaces ≡ [] → (kind : ErrorKind) → WordsError has_tree fails true kind → IsErrAnd result (λ error. (error.kind ≡ kind) ⊎ FailsFirstSegment alloc old new.spaces error.kind)
  -- a value is set where the one segment has room
  pub fits : length old.spaces ≤ 1 → (words : ℕ) → HasWords has_tree true words → HasRoomFirst alloc old words → IsOk result
  pub available : NotExhaustedWhileAvailable alloc (WordsError has_tree fails true) old result
  pub same : alloc.same old.allocator new.allocator
  -- what else the allocator has out stays out
  pub others : KeepsOthers alloc.out (state_of old) (state_of new)

-- What making the root a new object of length `n` keeps. `schema` is what is seen of its type (the
-- members of the trait OwnedBuilder).
pub record InitsRoot {A S K : Type 0} (alloc : allocator.Ghosts A S) (schema : owned_builder.Ghosts K) (n : ℕ) (old new : Built A)
    (result : Result (Unit {0}) Error) : Type 0 where
  pub inits : OnOk result ((form : Form) × (traversed : ℕ) × schema.inits n form × Root (message new.spaces) form none traversed)
  -- there is a segment, so the message can be written
  pub there : OnOk result (0 < length new.spaces)
  -- which words it takes, once the old root is cleared
  pub placed : OnOk result (IsInit alloc (InitWords schema.inits n) old new)
  -- after a failure the root is null
  pub nulled : OnErr result (IsCleared alloc old new)
  -- it fails because the type has no such object, as the allocator fails to hand out the first
  -- segment, or where no segment has room
  pub kind : IfErr result (λ error. schema.fails n error.kind ⊎ FailsFirstSegment alloc old new.spaces error.kind
      ⊎ FindsNoRoom alloc (InitWords schema.inits n) old new.spaces error.kind)
  -- the first segment is asked for before the type is asked
  pub none : new.spaces ≡ [] → IfErr result (λ error. FirstSegmentError alloc old error.kind)
  -- an object that the type has is made where the first segment has room
  pub fits : FitsFirst alloc (InitWords schema.inits n) old (IfErr result (λ error. schema.fails n error.kind))
  pub available : NotExhaustedWhileAvailable alloc (schema.fails n) old result
  pub same : alloc.same old.allocator new.allocator
  -- what else the allocator has out stays out
  pub others : KeepsOthers alloc.out (state_of old) (state_of new)

-- What a call keeps that makes the root null, and its old body zero.
pub record ClearsRoot {A S : Type 0} (alloc : allocator.Ghosts A S) (old new : Built A) (result : Result (Unit {0}) Error) : Type 0 where
  pub null : new.location ≡ None
  pub null_word : HasNullRoot new.spaces
  pub zero : MatchOption old.location ⊤ (IsZeroAt new.spaces)
  pub following : MatchOption old.location ⊤ (λ location. 0 < location.start)
  -- no other used word changes
  pub outside : KeepsOutside old.location old.spaces new.spaces
  pub there : OnOk result (0 < length new.spaces)
  pub none : OnErr result (new.spaces ≡ [])
  -- it fails as the allocator fails to hand out the first segment
  pub kind : IfErr result (λ error. FirstSegmentError alloc old error.kind)
  pub same : alloc.same old.allocator new.allocator
  -- what else the allocator has out stays out
  pub others : KeepsOthers alloc.out (state_of old) (state_of new)
  -- where there was a segment, none is asked for
  pub stays : 0 < length old.spaces → new.allocator ≡ old.allocator
  pub size : OnOk result (size_in_words new.spaces ≡ max 1 (size_in_words old.spaces))
  -- no room is lost
  pub rooms : KeepsRooms old.spaces new.spaces
  pub new_object : old.spaces ≡ [] → OnOk result (HasRootAlone new.spaces)
  -- where it has to be granted, the first segment is, with this many words
  pub granted : old.spaces ≡ [] → (most : ℕ) → alloc.grants old.allocator 1 most → IsOk result × ((space_at new.spaces 0).size / 8 ≡ most)
  pub available : NotExhaustedWhileAvailable alloc (λ kind. ⊥) old result

-- What making sure that there is a root keeps: where there is no segment, a null root is in a new
-- segment after the call.
pub record EnsuresRoot {A S : Type 0} (alloc : allocator.Ghosts A S) (old new : Built A) (result : Result (Unit {0}) Error) : Type 0 where
  pub there : OnOk result (0 < length new.spaces)
  pub none : OnErr result (new.spaces ≡ [])
  pub looked : IsLookedAt alloc old new
  -- it fails as the allocator fails to hand out the first segment
  pub kind : IfErr result (λ error. FirstSegmentError alloc old error.kind)
  -- where it has to be granted, the first segment is
  pub granted : WhereGranted alloc old (IsOk result)
  pub available : NotExhaustedWhileAvailable alloc (λ kind. ⊥) old result
  -- what else the allocator has out stays out
  pub others : KeepsOthers alloc.out (state_of old) (state_of new)

-- What a look at the root keeps, which tests whether a type accepts the object there.
pub record LooksAtRoot {A S K : Type 0} (alloc : allocator.Ghosts A S) (schema : owned_builder.Ghosts K) (old new : Built A)
    (result : Result (Unit {0}) Error) : Type 0 where
  pub taken : OnOk result (ForRoot new.spaces schema.takes)
  pub there : OnOk result (0 < length new.spaces)
  pub looked : IsLookedAt alloc old new
  -- it fails as the allocator fails to hand out the first segment, or because the type rejects the
  -- root
  pub kind : IfErr result (λ error. FailsFirstSegment alloc old new.spaces error.kind ⊎ RootFormError schema.form_error old.spaces error.kind)
  -- there is no segment only where the first one could not be had
  pub none : new.spaces ≡ [] → IfErr result (λ error. FirstSegmentError alloc old error.kind)
  -- where it has to be granted, the first segment is
  pub granted : WhereGranted alloc old (IfErr result (λ error. RootFormError schema.form_error old.spaces error.kind))
  pub available : NotExhaustedWhileAvailable alloc (RootFormError schema.form_error old.spaces) old result
  -- what else the allocator has out stays out
  pub others : KeepsOthers alloc.out (state_of old) (state_of new)

-- A message of no segments, whose root is null, and `fact` holds of its allocator.
pub record IsNewMessage {A : Type 0} (fact : A → Type 0) (built : Built A) : Type 0 where
  pub spaces : built.spaces ≡ []
  pub location : built.location ≡ None
  pub allocator : fact built.allocator

-- What is kept of the allocator that is returned: each segment has gone back to it with its used
-- words.
pub record GivesBack {A S : Type 0} (alloc : allocator.Ghosts A S) (state : BuilderState A) (last : A) : Type 0 where
  pub available : ReturnsRegion alloc.out state last
  -- these returns, and no others, made its present state
  pub returned : ReturnsEach alloc.returns state.spaces state.allocator last
  pub same : alloc.same state.allocator last
