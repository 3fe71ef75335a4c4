-- Values that are written into parts of segments.
use Rattle.std.specs.Prelude.{◌≡◌, ℕ, ◌*◌, Bool, List, ◌++◌, length}
use Rattle.capnp_frame.specs.declared.words.Word.{Word}
use Rattle.capnp_layout.specs.Prelude.{Trees, layout, output}
use Rattle.capnp_wire.specs.Prelude.{pointed}
use Rattle.capnp_build.specs.Bytes.{Space, written}

-- a pointer and the block after it are the value's tree
abbrev pub IsBlockOf : (Trees → Type 0) → Bool → Word → List ℕ → Type 0
IsBlockOf has_tree canonical word block = (trees : Trees) → has_tree trees → pointed word block ≡ layout (output canonical trees)

-- n bytes from this index on are the block of a value
pub record IsFilled (has_tree : Trees → Type 0) (canonical : Bool) (word : Word) (from n : ℕ) (old new : List ℕ) : Type 0 where
  pub block : List ℕ
  pub len : length block ≡ n
  pub holds : IsBlockOf has_tree canonical word block
  pub bytes : new ≡ written old from block

-- with more bytes used
abbrev pub with_more : Space → List ℕ → Space
with_more space block = record { used = space.used ++ block; size = space.size; is_provided = space.is_provided }

-- this many more words are used, which are the block of a value
pub record IsAppended (has_tree : Trees → Type 0) (canonical : Bool) (word : Word) (words : ℕ) (old new : Space) : Type 0 where
  pub block : List ℕ
  pub len : length block ≡ 8 * words
  pub holds : IsBlockOf has_tree canonical word block
  pub space : new ≡ with_more old block
