-- Structs of data words and of pointer fields (src/struct_value.rt).
-- Encoding document, "Structs".
use Rattle.std.specs.Prelude.{◌≡◌, ◌⊎◌, ℕ, ◌^◌, ◌<◌, ◌≤◌, Bool, true, false, List, length}
use Rattle.capnp_frame.specs.declared.error.ErrorKind.{ErrorKind}
use Rattle.capnp_frame.specs.declared.error.ErrorKind.TheVariants.{AllocationTooLarge}
use Rattle.capnp_layout.specs.Prelude.{struct, Trees, none, tree, cut_zeros}

-- data words, and this many pointers
pub record IsStructTree (words : List ℕ) (size : ℕ) (has_trees : Trees → Type 0) (trees : Trees) : Type 0 where
  pub children : Trees
  pub children_is : has_trees children
  pub few_words : length words < 2 ^ 16
  pub few_pointers : size < 2 ^ 16
  pub whole : trees ≡ tree (struct words) children none

-- a pointer can't declare this many words or pointers, or the fields fail
abbrev pub StructError : ℕ → ℕ → (ErrorKind → Type 0) → ErrorKind → Type 0
StructError words size fails kind =
    ((2 ^ 16 ≤ words ⊎ 2 ^ 16 ≤ size) × (kind ≡ AllocationTooLarge (2 ^ 16)))
    ⊎ ((words < 2 ^ 16) × (size < 2 ^ 16) × fails kind)

-- the data words that are kept
abbrev pub kept_words : Bool → List ℕ → List ℕ
kept_words true words = cut_zeros words
kept_words false words = words
