-- What is kept by the calls that return a view of the root's object, or write through one
-- (src/arena/root.rt, src/any_pointer.rt and the views). `message` is the reference in a view, and
-- `built` what is seen of the message through it.
use Rattle.std.specs.Prelude.{◌≡◌, ◌⊎◌, ℕ, ◌*◌, ◌^◌, ◌<◌, List, [], length, map, Result, IfOk, IfErr, IsOk, MatchResult}
use Rattle.std.specs.Borrow.{MutBor}
use Rattle.std.specs.Result.{IsErrAnd}
use Rattle.capnp_frame.specs.declared.error.Error.{Error}
use Rattle.capnp_frame.specs.declared.error.ErrorKind.{ErrorKind}
use Rattle.capnp_layout.specs.Prelude.{words_of, Form, Trees, none, tree, total_words, Root, body}
use Rattle.capnp_wire.specs.Prelude.{unlimited_root, Pointer, Measures, MeasuringError}
use Rattle.capnp_wire.specs.declared.message_size.MessageSize.{MessageSize}
use Rattle.capnp_build.specs.declared.allocator.Allocator as allocator
use Rattle.capnp_build.specs.declared.owned_builder.OwnedBuilder as owned_builder
use Rattle.capnp_build.specs.Bytes.{Space}
use Rattle.capnp_build.specs.BuilderState.{used_of, KeepsOthers}
use Rattle.capnp_build.specs.Built.{Built, state_of, message as words_of_message, ForRoot}
use Rattle.capnp_build.specs.Placed.{RootFormError, InitWords, IsCleared, IsInit, FindsNoRoom, FoundNoRoom, IsLookedAt}
use Rattle.capnp_build.specs.Written.{IsWritten}
use Rattle.capnp_build.specs.Outcomes.{FirstSegmentError, FailsFirstSegment, FitsFirst, WhereGranted, NotExhaustedWhileAvailable}

-- What is kept by a call that makes the root a new object of length `n` and returns a view that
-- writes it.
pub record InitsView {A S K M V : Type 0} (alloc : allocator.Ghosts A S) (schema : owned_builder.Ghosts K) (n : ℕ) (built : M → Built A)
    (message : V → MutBor M) (old : MutBor M) (result : Result V Error) : Type 0 where
  -- the view writes the message that was borrowed
  pub same : IfOk result (λ view. (message view).ghost_name ≡ old.ghost_name)
  pub inits : IfOk result (λ view. (form : Form) × (traversed : ℕ) × schema.inits n form
      × Root (words_of_message (built (message view).now).spaces) form none traversed)
  -- there is a segment, so the message can be written
  pub there : IfOk result (λ view. 0 < length (built (message view).now).spaces)
  -- which words it takes, once the old root is cleared
  pub placed : IfOk result (λ view. IsInit alloc (InitWords schema.inits n) (built old.now) (built (message view).now))
  -- it fails because the type has no such object, as the allocator fails to hand out the first
  -- segment, or where no segment had room once the old root was cleared
  pub kind : IfErr result (λ error. schema.fails n error.kind ⊎ FirstSegmentError alloc (built old.now) error.kind
      ⊎ FoundNoRoom alloc (InitWords schema.inits n) (built old.now) error.kind)
  -- an object that the type has is made where the first segment has room
  pub fits : FitsFirst alloc (InitWords schema.inits n) (built old.now) (IfErr result (λ error. schema.fails n error.kind))
  pub available : NotExhaustedWhileAvailable alloc (schema.fails n) (built old.now) result
  pub allocator : IfOk result (λ view. alloc.same (built old.now).allocator (built (message view).now).allocator)
  -- what else the allocator has out stays out
  pub others : IfOk result (λ view. KeepsOthers alloc.out (state_of (built old.now)) (state_of (built (message view).now)))

-- What a call leaves that fails to make the root a new object of length `n`: a null root.
pub record FailsWithNull {A S K V : Type 0} (alloc : allocator.Ghosts A S) (schema : owned_builder.Ghosts K) (n : ℕ) (old last : Built A)
    (result : Result V Error) : Type 0 where
  pub cleared : IsCleared alloc old last
  pub kind : IfErr result (λ error. schema.fails n error.kind ⊎ FailsFirstSegment alloc old last.spaces error.kind
      ⊎ FindsNoRoom alloc (InitWords schema.inits n) old last.spaces error.kind)
  -- there is no segment only where the first one could not be had
  pub none : last.spaces ≡ [] → IfErr result (λ error. FirstSegmentError alloc old error.kind)

-- What is kept by a call that returns a view of the root's object, where the type accepts it.
pub record GetsView {A S K M V : Type 0} (alloc : allocator.Ghosts A S) (schema : owned_builder.Ghosts K) (built : M → Built A)
    (message : V → MutBor M) (old : MutBor M) (result : Result V Error) : Type 0 where
  -- the view writes the message that was borrowed
  pub same : IfOk result (λ view. (message view).ghost_name ≡ old.ghost_name)
  pub taken : IfOk result (λ view. ForRoot (built (message view).now).spaces schema.takes)
  -- there is a segment, so the message can be written
  pub there : IfOk result (λ view. 0 < length (built (message view).now).spaces)
  pub looked : IfOk result (λ view. IsLookedAt alloc (built old.now) (built (message view).now))
  -- what else the allocator has out stays out
  pub others : IfOk result (λ view. KeepsOthers alloc.out (state_of (built old.now)) (state_of (built (message view).now)))
  -- it fails as the allocator fails to hand out the first segment, or because the type rejects the
  -- root
  pub kind : IfErr result (λ error. FirstSegmentError alloc (built old.now) error.kind
      ⊎ RootFormError schema.form_error (built old.now).spaces error.kind)
  -- where it has to be granted, the first segment is
  pub granted : WhereGranted alloc (built old.now) (IfErr result (λ error. RootFormError schema.form_error (built old.now).spaces error.kind))
  pub available : NotExhaustedWhileAvailable alloc (RootFormError schema.form_error (built old.now).spaces) (built old.now) result

-- What a call leaves that returns no view of the root's object: the root as it was, or null where there was no segment.
pub record LeavesRoot {A S K V : Type 0} (alloc : allocator.Ghosts A S) (schema : owned_builder.Ghosts K) (old last : Built A)
    (result : Result V Error) : Type 0 where
  pub looked : IsLookedAt alloc old last
  pub kind : IfErr result (λ error. FailsFirstSegment alloc old last.spaces error.kind ⊎ RootFormError schema.form_error old.spaces error.kind)
  -- there is no segment only where the first one could not be had
  pub none : last.spaces ≡ [] → IfErr result (λ error. FirstSegmentError alloc old error.kind)

-- What writing into the root's object keeps: `writes` relates the segments before and after, and
-- says what is written.
pub record WritesRoot {A : Type 0} (writes : List Space → List Space → Type 0) (old new : Built A) : Type 0 where
  pub set : writes old.spaces new.spaces
  pub written : IsWritten old new

-- What writing into the root's object through a view keeps.
pub record WritesView {A M : Type 0} (built : M → Built A) (writes : List Space → List Space → Type 0) (old new : MutBor M) : Type 0 where
  -- it is still a view of the message that was borrowed
  pub same : new.ghost_name ≡ old.ghost_name
  pub set : writes (built old.now).spaces (built new.now).spaces
  pub written : IsWritten (built old.now) (built new.now)

-- What the size of the tree at the root is: what a reader of the root returns.
pub record SizesRoot (spaces : List Space) (result : Result MessageSize Error) : Type 0 where
  pub returned : let pointer : Pointer = unlimited_root (map used_of spaces) in MatchResult result
      (λ size. Measures pointer size.word_count × (size.cap_count ≡ 0)) (λ error. MeasuringError pointer error.kind)
  pub measured : (words : ℕ) → Measures (unlimited_root (map used_of spaces)) words → words < 2 ^ 64 → IsOk result
  pub exact : (kind : ErrorKind) → MeasuringError (unlimited_root (map used_of spaces)) kind → IsErrAnd result (λ error. error.kind ≡ kind)

-- The bytes of the object at the root and of everything below it: the words of the whole tree, and
-- no more.
pub record HoldsTree (spaces : List Space) (bytes : List ℕ) : Type 0 where
  pub words : (form : Form) (children : Trees) (traversed : ℕ) → Root (words_of_message spaces) form children traversed → words_of bytes ≡ body (tree form children none)
  pub size : (form : Form) (children : Trees) (traversed : ℕ) → Root (words_of_message spaces) form children traversed → length bytes ≡ 8 * total_words (tree form children none)
  -- there is no segment yet
  pub empty : spaces ≡ [] → bytes ≡ []
