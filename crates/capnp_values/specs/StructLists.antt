-- Lists of structs (src/struct_list.rt), and their elements (src/struct_elements.rt).
-- Encoding document, "Lists", the elements of code 7.
use Rattle.std.specs.Prelude.{◌≡◌, ◌⊎◌, ℕ, ◌+◌, ◌-◌, ◌*◌, ◌^◌, ◌<◌, ◌≤◌, min, Bool, true, false, List, [], ◌∷◌, length, map, take, All, Result, IfOk}
use Rattle.capnp_frame.specs.declared.error.Error.{Error}
use Rattle.capnp_frame.specs.declared.error.ErrorKind.{ErrorKind}
use Rattle.capnp_frame.specs.declared.error.ErrorKind.TheVariants.{AllocationTooLarge}
use Rattle.capnp_layout.specs.Prelude.{structs, Trees, none, tree, total_words, first, following, before, least_data, least_pointers, narrowed, trim, run, output, put, fill}
use Rattle.capnp_wire.specs.declared.traits.TreeWords.{TreeWords}
use Rattle.capnp_values.specs.Measured.{MeasuresValue}

-- the trees of one struct's fields, in front of the trees of other structs
pub record IsStructInFront (has_fields has_rest : Trees → Type 0) (trees : Trees) : Type 0 where
  pub fields : Trees
  pub rest : Trees
  pub whole : trees ≡ before fields rest
  pub fields_is : has_fields fields
  pub others : has_rest rest

-- the fields of some structs, one struct after the other, are these trees
abbrev pub AreElements : {V : Type 0} → (V → Trees → Type 0) → List V → Trees → Type 0
AreElements has_trees [] trees = trees ≡ none
AreElements has_trees (value ∷ values) trees = IsStructInFront (has_trees value) (λ t. AreElements has_trees values t) trees

-- the first struct that fails does so with this kind
abbrev pub ElementsError : {V : Type 0} → (V → Trees → Type 0) → (V → ErrorKind → Type 0) → List V → ErrorKind → Type 0
ElementsError has_trees fails [] kind = ⊥
ElementsError has_trees fails (value ∷ values) kind =
    fails value kind ⊎ ((fields : Trees) × has_trees value fields × ElementsError has_trees fails values kind)

-- the list of these structs, each of d data words and p pointers
pub record IsStructListTree {V : Type 0} (words : V → List ℕ) (has_trees : V → Trees → Type 0) (d p : ℕ) (values : List V) (trees : Trees) : Type 0 where
  pub children : Trees
  pub children_is : AreElements has_trees values children
  pub few_words : d < 2 ^ 16
  pub few_pointers : p < 2 ^ 16
  pub few : length values < 2 ^ 29
  pub small : length values * (d + p) < 2 ^ 29
  pub whole : trees ≡ tree (structs d p (map words values)) children none

-- a pointer and a tag can't declare this many structs of d data words and p pointers
abbrev pub TooManyStructs : ℕ → ℕ → ℕ → ErrorKind → Type 0
TooManyStructs n d p kind =
    ((2 ^ 16 ≤ d ⊎ 2 ^ 16 ≤ p) × (kind ≡ AllocationTooLarge (2 ^ 16)))
    ⊎ ((d < 2 ^ 16) × (p < 2 ^ 16) × (2 ^ 29 ≤ n) × (kind ≡ AllocationTooLarge (min n (2 ^ 32 - 1))))
    ⊎ ((d < 2 ^ 16) × (p < 2 ^ 16) × (n < 2 ^ 29) × (2 ^ 29 ≤ n * (d + p)) × (kind ≡ AllocationTooLarge (min (n * (d + p)) (2 ^ 32 - 1))))

-- there are too many structs, or one of them fails
abbrev pub StructListError : {V : Type 0} → (V → Trees → Type 0) → (V → ErrorKind → Type 0) → ℕ → ℕ → List V → ErrorKind → Type 0
StructListError has_trees fails d p values kind =
    TooManyStructs (length values) d p kind
    ⊎ ((d < 2 ^ 16) × (p < 2 ^ 16) × (length values < 2 ^ 29) × (length values * (d + p) < 2 ^ 29) × ElementsError has_trees fails values kind)

-- The data words and the pointers that each element keeps: in canonical form as many as the element
-- with the most of them needs. And the trees that the first m of each p pointers point to.
abbrev pub element_data : Bool → ℕ → List (List ℕ) → ℕ
element_data true d elements = least_data elements
element_data false d elements = d

abbrev pub element_pointers : Bool → ℕ → List (List ℕ) → Trees → ℕ
element_pointers true p elements children = least_pointers p elements (trim children)
element_pointers false p elements children = p

abbrev pub output_children : Bool → ℕ → ℕ → List (List ℕ) → Trees → Trees
output_children canonical m p elements children = narrowed m p elements (output canonical children)

-- each element has d data words
abbrev pub AreEven : ℕ → List (List ℕ) → Type 0
AreEven d elements = All (λ element. (length element ≡ d) × All (λ w. w < 2 ^ 64) element) elements

-- what is measured of structs of d data words each: the words of all that they point to, or why one of
-- them fails
pub record MeasuresElements {V : Type 0} (words : V → List ℕ) (has_trees : V → Trees → Type 0) (fails : V → ErrorKind → Type 0) (canonical : Bool) (d : ℕ) (values : List V) (result : Result TreeWords Error) : Type 0 where
  pub measured : MeasuresValue (λ t. AreElements has_trees values t) (λ k. ElementsError has_trees fails values k) canonical result
  pub even : IfOk result (λ _. AreEven d (map words values))

-- elements from this word of a block on, each in front of its p pointers, and what these point to from
-- another word on
abbrev pub fill_elements : ℕ → ℕ → List (List ℕ) → ℕ → Trees → List ℕ → List ℕ
fill_elements p at [] next children block = block
fill_elements p at (element ∷ elements) next children block =
    fill_elements p (at + length element + p) elements (next + total_words (first p children)) (following p children) (fill (run (at + length element) p) next (first p children) (put at element block))

-- d words and m pointers of each struct are kept, and what these point to has room in a block from this
-- word on
pub record HasRoomForElements {V : Type 0} (words : V → List ℕ) (has_trees : V → Trees → Type 0) (canonical : Bool) (d m most p : ℕ) (values : List V) (next room : ℕ) : Type 0 where
  pub children : Trees
  pub children_is : AreElements has_trees values children
  pub few_words : d < 2 ^ 16
  pub few_pointers : p < 2 ^ 16
  pub data_fits : d ≤ most
  pub pointers_are : m ≡ element_pointers canonical p (map words values) children
  pub fits : next + total_words (output_children canonical m p (map words values) children) ≤ room

-- the elements of a list are in a block from this word on, and what their pointers point to from
-- another one on, up to the first free word
pub record AreElementsWritten {V : Type 0} (words : V → List ℕ) (has_trees : V → Trees → Type 0) (canonical : Bool) (d m p : ℕ) (values : List V) (at next : ℕ) (old new : List ℕ) (free : ℕ) : Type 0 where
  pub words_are : (children : Trees) → AreElements has_trees values children
      → new ≡ fill_elements m at (map (take d) (map words values)) next (output_children canonical m p (map words values) children) old
  pub next_is : (children : Trees) → AreElements has_trees values children → free ≡ next + total_words (output_children canonical m p (map words values) children)
