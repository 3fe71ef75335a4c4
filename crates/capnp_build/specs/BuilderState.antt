-- The segments of a message that is built, and the allocator that they come from.
use Rattle.std.specs.Prelude.{◌≡◌, ℕ, suc, ◌-◌, ◌*◌, ◌/◌, ◌^◌, min, Bool, false, List, [], ◌∷◌, length, Option, Some, None, slice_index_or, slice_set}
use Rattle.capnp_build.specs.Bytes.{Space}
use Rattle.capnp_build.specs.declared.segments.SegmentPlace.{SegmentPlace}
use Rattle.capnp_build.specs.declared.segments.SegmentPlace.TheVariants.{First, Further}
use Rattle.capnp_build.specs.Out.{Out}
use Rattle.capnp_build.specs.Filled.{IsBlockOf, with_more}
use Rattle.capnp_frame.specs.declared.words.Word.{Word}
use Rattle.capnp_layout.specs.Prelude.{Trees}

-- the segments in order, and the allocator in its present state
pub record BuilderState (A : Type 0) : Type 0 where
  pub spaces : List Space
  pub allocator : A

abbrev pub spaces_of : {P : Type 0} → Option P → List P → List P
spaces_of None others = []
spaces_of (Some first) others = first ∷ others

abbrev pub used_of : Space → List ℕ
used_of space = space.used

-- what a segment is to the allocator
abbrev pub pair : Space → Out
pair space = record { length = space.size; is_provided = space.is_provided }

-- the pairs of segments, the last one first, before others
abbrev pub pairs : List Space → List Out → List Out
pairs [] others = others
pairs (space ∷ spaces) others = pairs spaces (pair space ∷ others)

-- the segments are out, and maybe others
abbrev pub AreOut : (List Out → Type 0) → List Space → Type 0
AreOut out spaces = (others : List Out) × out (pairs spaces others)

-- with the segments as they are now, other segments that were out may still be out
abbrev pub KeepsOthers : {A : Type 0} → (A → List Out → Type 0) → BuilderState A → BuilderState A → Type 0
KeepsOthers out old new = (others : List Out) → out old.allocator (pairs old.spaces others) → out new.allocator (pairs new.spaces others)

-- once the segments are back, other segments that were out may still be out
abbrev pub ReturnsRegion : {A : Type 0} → (A → List Out → Type 0) → BuilderState A → A → Type 0
ReturnsRegion out old allocator = (others : List Out) → out old.allocator (pairs old.spaces others) → out allocator others

-- the segments are returned one by one, the last one first, each with exactly the number of its
-- used words
abbrev pub ReturnsEach : {A : Type 0} → (A → Out → ℕ → A → Type 0) → List Space → A → A → Type 0
ReturnsEach returns [] old new = new ≡ old
ReturnsEach {A = A} returns (space ∷ spaces) old new = (between : A) × ReturnsEach returns spaces old between × returns between (pair space) (length space.used / 8) new

abbrev pub no_space : Space
no_space = record { used = []; size = 0; is_provided = false }

-- the number of the segment that is kept there
abbrev pub index_of : SegmentPlace → ℕ
index_of First = 0
index_of (Further other) = suc other

abbrev pub space_at : List Space → ℕ → Space
space_at spaces index = slice_index_or spaces index no_space

-- the free words, as far as they may be used
abbrev pub free_words_of : Space → ℕ
free_words_of space = min (space.size / 8) (2 ^ 29) - length space.used / 8

abbrev pub with_space : {A : Type 0} → BuilderState A → ℕ → Space → BuilderState A
with_space state index space = record { spaces = slice_set state.spaces index space; allocator = state.allocator }

-- the block of a value after the used words of a segment
pub record IsAppendedAt {A : Type 0} (has_tree : Trees → Type 0) (canonical : Bool) (word : Word) (words index : ℕ) (old new : BuilderState A) : Type 0 where
  pub block : List ℕ
  pub len : length block ≡ 8 * words
  pub holds : IsBlockOf has_tree canonical word block
  pub state_is : new ≡ with_space old index (with_more (space_at old.spaces index) block)
