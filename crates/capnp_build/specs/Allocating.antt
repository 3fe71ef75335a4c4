-- What an allocator keeps that hands out a segment, or takes one back (src/allocator.rt). As the members of
-- the trait Allocator, `out` says which segments may be out, `keeps` what every call leaves the same, and
-- `grants` which requests have to be granted. `fails` says with which kinds a request may fail, and `returns`
-- what taking a segment back does.
use Rattle.std.specs.Prelude.{ℕ, ◌/◌, ◌^◌, ◌<◌, ◌≤◌, ◌≡◌, Bool, List, length, Result, IfOk, IfErr, IsOkAnd, OnErr}
use Rattle.capnp_frame.specs.declared.error.Error.{Error}
use Rattle.capnp_frame.specs.declared.error.ErrorKind.{ErrorKind}
use Rattle.capnp_frame.specs.declared.error.ErrorKind.TheVariants.{SegmentTaken}
use Rattle.capnp_build.specs.Bytes.{ZeroFrom}
use Rattle.capnp_build.specs.Out.{Out, AddsOut, TakesOff, HasLarge, AllocationError}

-- A segment of at least this many words is handed out, all zero; `content` is its bytes.
pub record HandsOut {A S : Type 0} (out : A → List Out → Type 0) (keeps : A → A → Type 0) (grants : A → ℕ → ℕ → Type 0)
    (fails : A → ℕ → ErrorKind → Type 0) (content : S → List ℕ) (is_provided : S → Bool) (asked : ℕ) (old new : A) (result : Result S Error) : Type 0 where
  pub room : IfOk result (λ s. asked ≤ length (content s) / 8)
  pub field : IfOk result (λ s. length (content s) / 8 < 2 ^ 32)
  pub zero : IfOk result (λ s. ZeroFrom 0 (content s))
  pub adds : IfOk result (λ s. AddsOut (out old) (out new) (record { length = length (content s); is_provided = is_provided s }))
  -- where it has to be granted, it is, by a segment of this many words
  pub granted : (words : ℕ) → grants old asked words → IsOkAnd result (λ s. length (content s) / 8 ≡ words)
  pub error_kinds : IfErr result (λ error. AllocationError asked error.kind)
  -- it fails with a kind that the allocator names for this request
  pub said : IfErr result (λ error. fails old asked error.kind)
  -- it fails with SegmentTaken only while a segment that is large enough is out
  pub taken : IfErr result (λ error. error.kind ≡ SegmentTaken → (list : List Out) → out old list → HasLarge asked list)
  -- after a failure no more segments are out
  pub errors : OnErr result ((list : List Out) → out old list → out new list)
  pub same : keeps old new

-- A segment of this length is taken back, and this many of its words were used.
pub record TakesBack {A : Type 0} (out : A → List Out → Type 0) (keeps : A → A → Type 0) (returns : A → Out → ℕ → A → Type 0)
    (segment : Out) (words : ℕ) (old new : A) : Type 0 where
  pub takes_off : TakesOff (out old) (out new) segment
  pub returned : returns old segment words new
  pub same : keeps old new
