-- What chunks add to a sink (the trait Write).
use Rattle.std.specs.Prelude.{◌≡◌, ℕ, ◌≤◌, ◌⊎◌, List, [], ◌∷◌, ◌++◌, Option}
use Rattle.capnp_frame.specs.declared.error.ErrorKind.{ErrorKind}
use Rattle.capnp_frame.specs.Source.{IfKnown, IsFront}

-- What a chunk adds to a sink, as a relation: `appends chunk added`.
abbrev pub Appending : Type 1
Appending = List ℕ → List ℕ → Type 0

-- What a call that fails may leave of a chunk, as a relation: `leaves chunk added`.
abbrev pub Leaving : Type 1
Leaving = List ℕ → List ℕ → Type 0

-- With which kinds a chunk may fail in addition to the device's, as a relation: `refuses chunk kind`.
abbrev pub Declining : Type 1
Declining = List ℕ → ErrorKind → Type 0

-- a plain sink adds the chunk itself
abbrev pub AppendsSame : Appending
AppendsSame chunk added = added ≡ chunk

-- a call that fails adds nothing
abbrev pub LeavesNothing : Leaving
LeavesNothing chunk added = added ≡ []

-- a call that fails adds some front of the chunk
abbrev pub LeavesFront : Leaving
LeavesFront chunk added = IsFront added chunk

-- a sink fails with one kind of its own, whatever the chunk
abbrev pub ByKind : ErrorKind → Declining
ByKind own chunk kind = kind ≡ own

-- a chunk may fail with this kind
abbrev pub AnyChunkError : Declining → ErrorKind → Type 0
AnyChunkError refuses kind = (chunk : List ℕ) × refuses chunk kind

-- one of these chunks fails with this kind
abbrev pub ChunksError : Declining → List (List ℕ) → ErrorKind → Type 0
ChunksError refuses [] kind = ⊥
ChunksError refuses (chunk ∷ chunks) kind = refuses chunk kind ⊎ ChunksError refuses chunks kind

-- `after` is `before` followed by bytes for which P holds
abbrev pub Adds : (List ℕ → Type 0) → List ℕ → List ℕ → Type 0
Adds P before after = (added : List ℕ) × P added × (after ≡ before ++ added)

-- what the chunks add, joined
abbrev pub AppendsAll : Appending → List (List ℕ) → List ℕ → Type 0
AppendsAll appends [] added = added ≡ []
AppendsAll appends (chunk ∷ chunks) added = (first others : List ℕ) × appends chunk first × AppendsAll appends chunks others × (added ≡ first ++ others)

-- Of chunks that are written one after the other the first ones are added; of the next one nothing,
-- or what a call that fails leaves of it.
abbrev pub LeavesSome : Appending → Leaving → List (List ℕ) → List ℕ → Type 0
LeavesSome appends leaves [] added = added ≡ []
LeavesSome appends leaves (chunk ∷ chunks) added = (added ≡ []) ⊎ leaves chunk added
    ⊎ ((first others : List ℕ) × appends chunk first × LeavesSome appends leaves chunks others × (added ≡ first ++ others))

-- What each call keeps of a sink: what was written stays at the front, the count of failures does
-- not fall, and it is the same sink.
pub record Grows {S : Type 0} (written : S → Option (List ℕ)) (failures : S → ℕ) (same : S → S → Type 0) (old new : S) : Type 0 where
  pub front : IfKnown (written old) (written new) IsFront
  pub counted : failures old ≤ failures new
  pub same_sink : same old new
