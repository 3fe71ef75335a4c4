-- Objects of one segment that no pointer points to yet (src/orphan.rt). Each is written once, when everything
-- below it is written, and no word of it changes after that. Only the first word of the segment, the root's,
-- may change. The words after it are called the body of the segment here.
use Rattle.std.specs.Prelude.{◌≡◌, ℕ, ◌+◌, ◌^◌, ◌<◌, List, [], ◌∷◌, ◌++◌, Some, slice_get}
pub use Rattle.capnp_layout.specs.Prelude.{link}
use Rattle.capnp_layout.specs.Prelude.{Form, Trees, none, tree, At}

-- The pointers to orphans, from a place on. The word of an orphan is the pointer to it, with the index of the
-- word at which it begins in place of the offset. `link` gives the pointer to it at a given place.
abbrev pub links : List ℕ → ℕ → List ℕ
links [] place = []
links (word ∷ words) place = link word place ∷ links words (place + 1)

-- the pointer at a word of the segment points to this tree
abbrev pub TreeIsAt : List ℕ → ℕ → Form → Trees → Type 0
TreeIsAt segment place form children =
    (traversed : ℕ) × At (segment ∷ []) (record { segment = 0; word = place } ∷ []) (tree form children none) traversed

-- The pointer to the orphan points to this tree, wherever in the segment it is put, whatever the root's word
-- is, and whatever is written after the words that are there.
pub record IsOrphan (body : List ℕ) (word : ℕ) (form : Form) (children : Trees) : Type 0 where
  pub points_to : (first : ℕ) (more : List ℕ) (place : ℕ) → place < 2 ^ 29 → slice_get (first ∷ (body ++ more)) place ≡ Some (link word place)
      → TreeIsAt (first ∷ (body ++ more)) place form children

-- orphans in order hold these trees
abbrev pub AreOrphans : List ℕ → List ℕ → Trees → Type 0
AreOrphans body [] trees = trees ≡ none
AreOrphans body (word ∷ words) none = ⊥
AreOrphans body (word ∷ words) (tree form children rest) = IsOrphan body word form children × AreOrphans body words rest
