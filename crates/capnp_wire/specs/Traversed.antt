-- What a walk over trees may still count against the traversal limit, and the words that it has
-- counted (src/layout/walk.rt).
pub use Rattle.capnp_layout.specs.Prelude.{Within, less, IsPastLimit, TreesAt}
use Rattle.std.specs.Prelude.{◌≡◌, Bool, ℕ, ◌+◌, ◌^◌, ◌<◌, ◌≤◌, List, [], ◌∷◌, ◌++◌, slice_get, Option, Some, None, if◌then◌else◌}
use Rattle.capnp_layout.specs.Prelude.{words_of, Trees, depth, total_words, places, IsObject, shape_of, words_in, At, output, AllHaveRoom, output_body_of}
use Rattle.capnp_layout.specs.declared.place.Place.{Place}
use Rattle.capnp_wire.specs.declared.layout.walk.Walk.{Walk}
use Rattle.capnp_layout.specs.declared.pointer_run.PointerRun.{PointerRun}
use Rattle.capnp_layout.specs.declared.object.Object.{Object}

-- the words that a walk has counted, where they fit 64 bits
abbrev pub counted : Walk → Option ℕ
counted walk = if walk.overflowed then None else Some walk.words

-- a count of words, which is lost where it does not fit 64 bits
abbrev pub Counts : Option ℕ → ℕ → Type 0
Counts None words = 2 ^ 64 ≤ words
Counts (Some kept) words = kept ≡ words

-- this many more words have been counted
abbrev pub CountsMore : Option ℕ → Option ℕ → ℕ → Type 0
CountsMore kept kept_then more = (words : ℕ) → Counts kept words → Counts kept_then (words + more)

-- trees at places, within the nesting depth left, where every field has room; they have this many
-- words, untrimmed or in canonical form
pub record TreesWithRoom (m : List (List ℕ)) (at : List Place) (nesting traversed : ℕ) (canonical : Bool) (words : ℕ) : Type 0 where
  pub trees : Trees
  pub are_at : At m at trees traversed
  pub shallow : depth trees ≤ nesting
  pub rooms : AllHaveRoom trees
  pub words_are : total_words (output canonical trees) ≡ words

-- What a walk over the trees at some places finds: trees, within the nesting depth left and the
-- limit.
pub record WalkedAll (m : List (List ℕ)) (canonical : Bool) (at : List Place) (nesting : ℕ) (limit left words_before words_now : Option ℕ) : Type 0 where
  pub traversed : ℕ
  pub words : ℕ
  pub are_at : TreesWithRoom m at nesting traversed canonical words
  pub within : Within limit traversed
  pub left_is : left ≡ less limit traversed
  pub counted : CountsMore words_before words_now words

-- What a walk from one place finds.
abbrev pub Walked : List (List ℕ) → Bool → Place → ℕ → Option ℕ → Option ℕ → Option ℕ → Option ℕ → Type 0
Walked m canonical place = WalkedAll m canonical (place ∷ [])

-- A walk has entered the object at a place, and nothing below it.
pub record EntersObject (m : List (List ℕ)) (canonical : Bool) (place : Place) (object : Object) (nesting : ℕ) (limit left words_before words_now : Option ℕ) : Type 0 where
  pub there : IsObject m place object
  pub deep : 0 < nesting
  pub within : Within limit object.traversed
  pub left_is : left ≡ less limit object.traversed
  pub counted : CountsMore words_before words_now (words_in (output_body_of canonical (words_of object.segment.now) object.start.word object.body))

-- A walk has entered the object at a place, and nothing below it yet: its pointers are consecutive.
pub record EntersRun (m : List (List ℕ)) (canonical : Bool) (place : Place) (children : PointerRun) (nesting : ℕ) (limit left words_before words_now : Option ℕ) : Type 0 where
  pub object : Object
  pub enters : EntersObject m canonical place object nesting limit left words_before words_now
  pub children_are : places children.first.segment children.first.word children.count ≡ (shape_of (words_of object.segment.now) object.start object.body).children
  pub content : slice_get m children.first.segment ≡ Some (words_of children.segment.now)

-- What a walk over the pointers at some places finds, up to an object that has others below it,
-- with `rest` after it: everything before that object, and then its own words alone.
pub record WalkedTo (m : List (List ℕ)) (canonical : Bool) (at rest : List Place) (children : PointerRun) (nesting : ℕ) (limit left words_before words_now : Option ℕ) : Type 0 where
  pub front : List Place
  pub place : Place
  pub at_is : at ≡ front ++ place ∷ rest
  pub left_there : Option ℕ
  pub words_there : Option ℕ
  pub in_front : WalkedAll m canonical front nesting limit left_there words_before words_there
  pub enters : EntersRun m canonical place children nesting left_there left words_there words_now
