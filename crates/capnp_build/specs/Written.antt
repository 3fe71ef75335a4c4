-- What views write into the root's object, by its tree.
use Rattle.std.specs.Prelude.{⊤, ◌≡◌, ℕ, ◌+◌, ◌<◌, ◌≤◌, List, [], ◌∷◌, length, take, drop, MatchOption, slice_set}
use Rattle.capnp_layout.specs.Prelude.{struct, numbers, Trees, none, tree, At, root}
use Rattle.capnp_build.specs.Bytes.{Space, written}
use Rattle.capnp_build.specs.Out.{Out}
use Rattle.capnp_build.specs.BuilderState.{space_at, pairs as pairs_of}
use Rattle.capnp_build.specs.Built.{Built, message, size_in_words, LiesOutside}

-- the root is a struct with a data word of this index
pub record HasField (spaces : List Space) (index : ℕ) : Type 0 where
  pub words : List ℕ
  pub children : Trees
  pub traversed : ℕ
  pub is_at : At (message spaces) (root ∷ []) (tree (struct words) children none) traversed
  pub within : index < length words

-- one of the root's data words is replaced, and everything else is as it was
abbrev pub IsFieldSet : List Space → List Space → ℕ → ℕ → Type 0
IsFieldSet spaces last index word =
    (words : List ℕ) (children : Trees) (traversed : ℕ) → At (message spaces) (root ∷ []) (tree (struct words) children none) traversed
    → (after : ℕ) × At (message last) (root ∷ []) (tree (struct (slice_set words index word)) children none) after

-- the root is a list of bytes with this many of them from this index on
pub record HasBytes (spaces : List Space) (index n : ℕ) : Type 0 where
  pub values : List ℕ
  pub traversed : ℕ
  pub is_at : At (message spaces) (root ∷ []) (tree (numbers 2 values) none none) traversed
  pub within : index + n ≤ length values

-- some of the root's bytes are replaced, and everything else is as it was
abbrev pub IsBytesSet : List Space → List Space → ℕ → List ℕ → Type 0
IsBytesSet spaces last index bytes =
    (values : List ℕ) (traversed : ℕ) → At (message spaces) (root ∷ []) (tree (numbers 2 values) none none) traversed
    → (after : ℕ) × At (message last) (root ∷ []) (tree (numbers 2 (written values index bytes)) none none) after

-- the root is a list of words with an element of this index
pub record HasNumber (spaces : List Space) (index : ℕ) : Type 0 where
  pub values : List ℕ
  pub traversed : ℕ
  pub is_at : At (message spaces) (root ∷ []) (tree (numbers 5 values) none none) traversed
  pub within : index < length values

-- one of the root's elements is replaced, and everything else is as it was
abbrev pub IsNumberSet : List Space → List Space → ℕ → ℕ → Type 0
IsNumberSet spaces last index number =
    (values : List ℕ) (traversed : ℕ) → At (message spaces) (root ∷ []) (tree (numbers 5 values) none none) traversed
    → (after : ℕ) × At (message last) (root ∷ []) (tree (numbers 5 (slice_set values index number)) none none) after

-- what a write through a view keeps
pub record IsWritten {A : Type 0} (old new : Built A) : Type 0 where
  pub location : new.location ≡ old.location
  pub count : length new.spaces ≡ length old.spaces
  pub size : size_in_words new.spaces ≡ size_in_words old.spaces
  -- the used bytes outside of the root's body stay
  pub outside : (i from n : ℕ) → MatchOption old.location ⊤ (LiesOutside i from n) → from + n ≤ length (space_at old.spaces i).used
      → take n (drop from (space_at new.spaces i).used) ≡ take n (drop from (space_at old.spaces i).used)
  pub allocator : new.allocator ≡ old.allocator
  pub pairs : (others : List Out) → pairs_of new.spaces others ≡ pairs_of old.spaces others
