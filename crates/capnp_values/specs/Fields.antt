-- Pointer fields (src/fields.rt).
use Rattle.std.specs.Prelude.{◌≡◌, ◌⊎◌, ℕ, zero, suc, ◌+◌, ◌*◌, ◌^◌, ◌<◌, ◌≤◌, Bool, true, false, List}
use Rattle.capnp_frame.specs.declared.error.ErrorKind.{ErrorKind}
use Rattle.capnp_layout.specs.Tree.{is_null}
use Rattle.capnp_layout.specs.Prelude.{Form, Trees, none, tree, count, total_words, cut_nulls, first, trim, run, output, AllHaveRoom, fill}
use Rattle.capnp_wire.specs.Prelude.{HasWords, WordsError}

-- a value is this tree, which has room, and has fewer than 2 ^ 29 words untrimmed
pub record IsPart (has_tree : Trees → Type 0) (form : Form) (children : Trees) : Type 0 where
  pub tree_is : has_tree (tree form children none)
  pub rooms : AllHaveRoom (tree form children none)
  pub few : total_words (tree form children none) < 2 ^ 29

-- a value in front of others
pub record IsValueInFront (has_tree has_trees : Trees → Type 0) (trees : Trees) : Type 0 where
  pub form : Form
  pub children : Trees
  pub rest : Trees
  pub whole : trees ≡ tree form children rest
  pub part : IsPart has_tree form children
  pub others : has_trees rest

-- the first value that fails has no tree, or has one with too many words untrimmed
abbrev pub FieldsError : (Trees → Type 0) → (ErrorKind → Type 0) → (ErrorKind → Type 0) → ErrorKind → Type 0
FieldsError has_tree fails rest_fails kind =
    WordsError has_tree fails false kind
    ⊎ ((words : ℕ) × HasWords has_tree false words × rest_fails kind)

-- this many trees, each with room and of few words
pub record IsSettled (size : ℕ) (trees : Trees) : Type 0 where
  pub many : count trees ≡ size
  pub rooms : AllHaveRoom trees
  pub few : total_words trees ≤ size * 2 ^ 29

-- the pointers of fields that are kept: in canonical form without nulls at the end
abbrev pub kept_fields : Bool → Trees → Trees
kept_fields true trees = cut_nulls (trim trees)
kept_fields false trees = trees

-- A value in front of n kept pointers is left out: in canonical form, where it is null and n is 0.
abbrev pub is_left_out : Bool → ℕ → Form → Bool
is_left_out true zero form = is_null form
is_left_out true (suc n) form = false
is_left_out false n form = false

-- the trees of fields, and their words
abbrev pub HasTotal : (Trees → Type 0) → ℕ → Type 0
HasTotal has_trees words = (trees : Trees) × has_trees trees × (words ≡ total_words trees)

-- the first n pointers of fields can be written, and what they point to from a word of a block on
pub record CanWriteFields (has_trees : Trees → Type 0) (canonical : Bool) (n next room : ℕ) : Type 0 where
  pub trees : Trees
  pub trees_are : has_trees trees
  pub some : n ≤ count trees
  pub fits : next + total_words (first n (output canonical trees)) ≤ room

-- the first n pointers of fields are in the slots of a block from this one on, and what they point to
-- is in its words from `next` on, up to the first free word
pub record AreFieldsWritten (has_trees : Trees → Type 0) (canonical : Bool) (slot n next : ℕ) (old new : List ℕ) (free : ℕ) : Type 0 where
  pub words_are : (trees : Trees) → has_trees trees → new ≡ fill (run slot n) next (first n (output canonical trees)) old
  pub next_is : (trees : Trees) → has_trees trees → free ≡ next + total_words (first n (output canonical trees))
