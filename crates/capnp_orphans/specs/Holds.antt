-- What orphans hold (src/draft.rt, src/orphanage.rt). In each fact `body` is the body of the
-- segment, `old` the body before the orphan was written, and `word` the orphan's word.
use Rattle.std.specs.Prelude.{◌≡◌, ◌⊎◌, ⊤, ℕ, ◌+◌, ◌-◌, ◌*◌, ◌^◌, ◌<◌, ◌≤◌, min, List, [], ◌∷◌, ◌++◌, length, All}
use Rattle.capnp_frame.specs.declared.error.ErrorKind.{ErrorKind}
use Rattle.capnp_frame.specs.declared.error.ErrorKind.TheVariants.{AllocationTooLarge}
use Rattle.capnp_layout.specs.Prelude.{Form, struct, structs, pointers, Trees, none, tree, pointer, struct_pointer, list_pointer}
use Rattle.capnp_orphans.specs.declared.orphan.Orphan.{Orphan}
use Rattle.capnp_orphans.specs.declared.draft.StructDraft.{StructDraft}
use Rattle.capnp_orphans.specs.Orphans.{links, IsOrphan, AreOrphans}

abbrev pub word_of : {T : Type 0} → Orphan T → ℕ
word_of orphan = orphan.word

-- it holds the tree of a value
abbrev pub HoldsValue : (Trees → Type 0) → List ℕ → ℕ → Type 0
HoldsValue has_tree body word = (form : Form) × (children : Trees) × has_tree (tree form children none) × IsOrphan body word form children

-- It is a struct of these data words that has adopted the orphans with these words, written right after the
-- old body.
pub record HoldsStruct (old words adopted body : List ℕ) (word : ℕ) : Type 0 where
  -- its tree has the trees of these orphans
  pub tree_is : (children : Trees) → AreOrphans old adopted children → IsOrphan body word (struct words) children
  -- whatever the orphans are, its words are these
  pub words_are : body ≡ old ++ (words ++ links adopted (1 + length old + length words))
  pub word_is : word ≡ pointer (struct words) (length adopted) (1 + length old)

-- It is a list of pointers to these orphans, written right after the old body.
pub record HoldsPointers (old adopted body : List ℕ) (word : ℕ) : Type 0 where
  -- its tree has the trees of these orphans
  pub tree_is : (children : Trees) → AreOrphans old adopted children → IsOrphan body word pointers children
  -- whatever the orphans are, its words are these
  pub words_are : body ≡ old ++ links adopted (1 + length old)
  pub word_is : word ≡ list_pointer (1 + length old) 6 (length adopted)

-- a struct of these data words that has adopted the orphans with these words
abbrev pub draft_of : {T : Type 0} {D P : ℕ} → List ℕ → List ℕ → StructDraft T D P
draft_of words adopted = record { words = words; pointers = adopted; schema = record {} }

-- the data words of structs, in order
abbrev pub words_of_each : {T : Type 0} {D P : ℕ} → List (StructDraft T D P) → List (List ℕ)
words_of_each [] = []
words_of_each (draft ∷ drafts) = draft.words ∷ words_of_each drafts

-- the orphans that structs have adopted, in order
abbrev pub adopted_by : {T : Type 0} {D P : ℕ} → List (StructDraft T D P) → List ℕ
adopted_by [] = []
adopted_by (draft ∷ drafts) = draft.pointers ++ adopted_by drafts

-- the words of structs, one after the other from a place on
abbrev pub element_words : {T : Type 0} {D P : ℕ} → List (StructDraft T D P) → ℕ → List ℕ
element_words [] place = []
element_words {D = D} {P = P} (draft ∷ drafts) place = (draft.words ++ links draft.pointers (place + D)) ++ element_words drafts (place + D + P)

-- It is the list of these structs, written right after the old body: their tag, and then their words.
pub record HoldsStructs {T : Type 0} {D P : ℕ} (old : List ℕ) (drafts : List (StructDraft T D P)) (body : List ℕ) (word : ℕ) : Type 0 where
  -- its tree has the trees of the orphans that they have adopted
  pub tree_is : (children : Trees) → AreOrphans old (adopted_by drafts) children → IsOrphan body word (structs D P (words_of_each drafts)) children
  -- whatever the orphans are, its words are these
  pub words_are : body ≡ old ++ (struct_pointer (length drafts) D P ∷ element_words drafts (2 + length old))
  pub word_is : word ≡ list_pointer (1 + length old) 7 (length drafts * (D + P))

-- the arrays of drafts are of their types
abbrev pub AreSized : {T : Type 0} {D P : ℕ} → List (StructDraft T D P) → Type 0
AreSized [] = ⊤
AreSized {D = D} {P = P} (draft ∷ drafts) = ((length draft.words ≡ D) × (length draft.pointers ≡ P) × All (λ w. w < 2 ^ 64) draft.words) × AreSized drafts

-- Orphans in order are the orphans of these values: each holds a tree that its value has.
abbrev pub AreValues : {A : Type 0} → (A → Trees → Type 0) → List ℕ → List A → List ℕ → Type 0
AreValues has_tree body [] [] = ⊤
AreValues has_tree body [] (word ∷ words) = ⊥
AreValues has_tree body (value ∷ values) [] = ⊥
AreValues has_tree body (value ∷ values) (word ∷ words) = HoldsValue (has_tree value) body word × AreValues has_tree body values words

-- trees in order are the trees of these values
abbrev pub AreTrees : {A : Type 0} → (A → Trees → Type 0) → List A → Trees → Type 0
AreTrees has_tree [] trees = trees ≡ none
AreTrees has_tree (value ∷ values) none = ⊥
AreTrees has_tree (value ∷ values) (tree form children rest) = has_tree value (tree form children none) × AreTrees has_tree values rest

-- the sections of a struct fit its pointer
abbrev pub FitsPointer : ℕ → ℕ → Type 0
FitsPointer d p = (d < 2 ^ 16) × (p < 2 ^ 16)

abbrev pub StructSizeError : ℕ → ℕ → ErrorKind → Type 0
StructSizeError d p kind = (2 ^ 16 ≤ d ⊎ 2 ^ 16 ≤ p) × (kind ≡ AllocationTooLarge (2 ^ 16))

-- how many words a struct has, and why it can't be written
abbrev pub TakesStructWords : ℕ → ℕ → ℕ → Type 0
TakesStructWords d p words = FitsPointer d p × (words ≡ d + p)

-- how many words a list of this many pointers has, and why it can't be written
abbrev pub TakesPointersWords : ℕ → ℕ → Type 0
TakesPointersWords n words = (n < 2 ^ 29) × (words ≡ n)

abbrev pub ManyPointers : ℕ → ErrorKind → Type 0
ManyPointers n kind = (2 ^ 29 ≤ n) × (kind ≡ AllocationTooLarge (min n (2 ^ 32 - 1)))

-- how many words a list of this many structs has, with its tag, and why it can't be written
abbrev pub TakesStructsWords : ℕ → ℕ → ℕ → ℕ → Type 0
TakesStructsWords d p n words = FitsPointer d p × (n < 2 ^ 29) × (words ≡ 1 + n * (d + p)) × (words < 2 ^ 29)

abbrev pub ManyStructs : ℕ → ℕ → ℕ → ErrorKind → Type 0
ManyStructs d p n kind = StructSizeError d p kind
    ⊎ (FitsPointer d p × (2 ^ 29 ≤ n) × (kind ≡ AllocationTooLarge (min n (2 ^ 32 - 1))))
    ⊎ (FitsPointer d p × (n < 2 ^ 29) × (2 ^ 29 ≤ 1 + n * (d + p)) × (kind ≡ AllocationTooLarge (min (1 + n * (d + p)) (2 ^ 32 - 1))))
