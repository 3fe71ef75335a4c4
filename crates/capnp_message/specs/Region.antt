-- One caller-provided region: available, or out (src/scratch_space.rt, src/single_segment.rt).
use Rattle.std.specs.Prelude.{◌≡◌, ◌⊎◌, ℕ, ◌/◌, ◌<◌, ◌≤◌, true, List, [], ◌∷◌, length, Option, Some, None, IfSome, IsSome, MatchOption, refl}
use Rattle.std.specs.Borrow.{MutBor}
use Rattle.capnp_frame.specs.declared.error.ErrorKind.{ErrorKind}
use Rattle.capnp_frame.specs.declared.error.ErrorKind.TheVariants.{AllocationTooLarge, SegmentTaken}
use Rattle.capnp_build.specs.Prelude.{ZeroFrom, Out, provided_of}

-- a region of this many bytes, as a segment that is out
abbrev pub region_out : ℕ → Out
region_out size = record { length = size; is_provided = true }

-- the region alone is out, or it is available and nothing is out
abbrev pub IsOutAlone : {X : Type 0} → Option X → ℕ → List Out → Type 0
IsOutAlone region size list = MatchOption region (list ≡ region_out size ∷ []) (λ _. list ≡ [])

-- the region alone is out among caller-provided segments, or it is available and none of them is out
abbrev pub IsProvidedAlone : {X : Type 0} → Option X → ℕ → List Out → Type 0
IsProvidedAlone region size list = MatchOption region (provided_of list ≡ size ∷ []) (λ _. provided_of list ≡ [])

-- the region is available, whole and all zero
pub record IsAvailable (region : Option (MutBor (List ℕ))) (size : ℕ) : Type 0 where
  pub available : IsSome region
  pub whole : IfSome region (λ r. length r.now ≡ size)
  pub zero : IfSome region (λ r. ZeroFrom 0 r.now)

-- while the region is available, it grants a request of no more words than it has
abbrev pub GrantsRegion : {X : Type 0} → Option X → ℕ → ℕ → ℕ → Type 0
GrantsRegion region size asked words = IsSome region × (asked ≤ size / 8) × (words ≡ size / 8)

-- a request of more words than the region has fails, and so does any other one while it is out
abbrev pub RegionError : {X : Type 0} → Option X → ℕ → ℕ → ErrorKind → Type 0
RegionError region size asked kind =
    ((size / 8 < asked) × (kind ≡ AllocationTooLarge asked)) ⊎ ((asked ≤ size / 8) × (region ≡ None) × (kind ≡ SegmentTaken))

-- in either case there is a list of the segments that are out; it may be empty
pub some_out : {X : Type 0} (region : Option X) (size : ℕ) → (list : List Out) × IsOutAlone region size list
some_out None size = (region_out size ∷ [], refl)
some_out (Some x) size = ([], refl)

pub some_provided : {X : Type 0} (region : Option X) (size : ℕ) → (list : List Out) × IsProvidedAlone region size list
some_provided None size = (region_out size ∷ [], refl)
some_provided (Some x) size = ([], refl)

-- this caller-provided region is available
pub record HoldsRegion (region : Option (MutBor (List ℕ))) (bytes : ℕ) (provided : MutBor (List ℕ)) : Type 0 where
  pub same : IfSome region (λ r. r.ghost_name ≡ provided.ghost_name)
  pub available : IsSome region
  pub size : bytes ≡ length provided.now
