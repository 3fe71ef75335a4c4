-- Where a list of structs is in a block (src/tagged.rt). Encoding document, "Lists", the elements of code 7.
use Rattle.std.specs.Prelude.{ℕ, ◌+◌, ◌*◌, ◌^◌, ◌<◌, ◌≤◌, Bool, List, length}
use Rattle.capnp_layout.specs.Prelude.{Trees}
use Rattle.capnp_values.specs.Fields.{CanWriteFields}
use Rattle.capnp_values.specs.StructLists.{HasRoomForElements}

-- a pointer and a tag can declare n structs of d data words and p pointers
pub record AreDeclared (n d p : ℕ) : Type 0 where
  pub few_words : d < 2 ^ 16
  pub few_pointers : p < 2 ^ 16
  pub few : n < 2 ^ 29
  pub small : n * (d + p) < 2 ^ 29

-- and each of them keeps e data words and m pointers
pub record IsDeclared (n d p e m : ℕ) : Type 0 where
  pub words_within : e ≤ d
  pub pointers_within : m ≤ p
  pub elements : n * (e + m) < 2 ^ 29

-- a list that has room in a block, from a word on: its tag, the elements, and what these point to
pub record ListPlace {V : Type 0} (words : V → List ℕ) (has_trees : V → Trees → Type 0) (canonical : Bool) (d p e m : ℕ) (values : List V) (next room : ℕ) : Type 0 where
  pub declared_is : AreDeclared (length values) d p
  pub size : IsDeclared (length values) d p e m
  pub begin_within : next + 1 + length values * (e + m) ≤ room
  pub elements : HasRoomForElements words has_trees canonical e m d p values (next + 1 + length values * (e + m)) room

-- an element of d data words and m pointers has room in a block from this word on, and what it
-- points to from another one on
pub record ElementPlace (has_trees : Trees → Type 0) (canonical : Bool) (d m at next room : ℕ) : Type 0 where
  pub can : CanWriteFields has_trees canonical m next room
  pub before_it : at + d + m ≤ next
