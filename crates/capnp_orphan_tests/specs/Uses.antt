-- What callers build (src/uses.rt).
use Rattle.std.specs.Prelude.{◌≡◌, ℕ, zero, suc, List, [], ◌∷◌}
use Rattle.std.specs.Borrow.{Bor}
use Rattle.capnp_layout.specs.Prelude.{struct, null, pointers, Trees, none, tree}
use Rattle.capnp_wire.specs.Prelude.{IsTextTree}
use Rattle.capnp_values.specs.DataSections.{with_field}
use Rattle.capnp_orphans.specs.Holds.{AreTrees}

-- the data words of a node
abbrev pub node_words : ℕ → List ℕ
node_words number = with_field (0 ∷ []) 64 0 number

-- a binary tree of a depth, in front of other trees
abbrev pub binary : ℕ → ℕ → Trees → Trees
binary zero number rest = tree (struct (node_words number)) (tree null none (tree null none none)) rest
binary (suc depth) number rest = tree (struct (node_words number)) (binary depth number (binary depth number none)) rest

abbrev pub IsBinary : ℕ → ℕ → Trees → Type 0
IsBinary depth number trees = trees ≡ binary depth number none

abbrev pub IsShownText : Bor (List ℕ) → Trees → Type 0
IsShownText text trees = IsTextTree text.now trees

-- the tree of a list of texts
abbrev pub IsTextList : List (Bor (List ℕ)) → Trees → Type 0
IsTextList texts trees = (children : Trees) × AreTrees IsShownText texts children × (trees ≡ tree pointers children none)
