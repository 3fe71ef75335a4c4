-- Lists of pointers (src/pointer_list.rt), and the values that they point to (src/items.rt).
-- Encoding document, "Lists".
use Rattle.std.specs.Prelude.{◌≡◌, ◌⊎◌, ℕ, ◌+◌, ◌-◌, ◌^◌, ◌<◌, ◌≤◌, Bool, List, [], ◌∷◌, length, min}
use Rattle.capnp_frame.specs.declared.error.ErrorKind.{ErrorKind}
use Rattle.capnp_frame.specs.declared.error.ErrorKind.TheVariants.{AllocationTooLarge}
use Rattle.capnp_layout.specs.Prelude.{pointers, Trees, none, tree, total_words, run, output, fill}
use Rattle.capnp_values.specs.Fields.{IsValueInFront, FieldsError}

-- values in order have these trees, each with room and of fewer than 2 ^ 29 words untrimmed
abbrev pub AreItems : {V : Type 0} → (V → Trees → Type 0) → List V → Trees → Type 0
AreItems has_tree [] trees = trees ≡ none
AreItems has_tree (value ∷ values) trees = IsValueInFront (has_tree value) (λ t. AreItems has_tree values t) trees

-- the first value that fails does so with this kind
abbrev pub ValuesError : {V : Type 0} → (V → Trees → Type 0) → (V → ErrorKind → Type 0) → List V → ErrorKind → Type 0
ValuesError has_tree fails [] kind = ⊥
ValuesError has_tree fails (value ∷ values) kind =
    FieldsError (has_tree value) (fails value) (λ k. ValuesError has_tree fails values k) kind

-- trees have room in a block, from a word on
pub record HasRoomForItems (has_trees : Trees → Type 0) (canonical : Bool) (next room : ℕ) : Type 0 where
  pub trees : Trees
  pub trees_are : has_trees trees
  pub fits : next + total_words (output canonical trees) ≤ room

-- n pointers are in a block from this word on, and what they point to is after the last of them, up
-- to the first free word
pub record AreItemsWritten (has_trees : Trees → Type 0) (canonical : Bool) (slot n : ℕ) (old new : List ℕ) (free : ℕ) : Type 0 where
  pub words_are : (trees : Trees) → has_trees trees → new ≡ fill (run slot n) (slot + n) (output canonical trees) old
  pub next_is : (trees : Trees) → has_trees trees → free ≡ slot + n + total_words (output canonical trees)

-- the list of pointers to these values
pub record IsPointerListTree {V : Type 0} (has_tree : V → Trees → Type 0) (values : List V) (trees : Trees) : Type 0 where
  pub children : Trees
  pub children_is : AreItems has_tree values children
  pub few : length values < 2 ^ 29
  pub whole : trees ≡ tree pointers children none

-- a pointer can't declare this many values, or one of the values fails
abbrev pub PointerListError : {V : Type 0} → (V → Trees → Type 0) → (V → ErrorKind → Type 0) → List V → ErrorKind → Type 0
PointerListError has_tree fails values kind =
    ((2 ^ 29 ≤ length values) × (kind ≡ AllocationTooLarge (min (length values) (2 ^ 32 - 1))))
    ⊎ ((length values < 2 ^ 29) × ValuesError has_tree fails values kind)
