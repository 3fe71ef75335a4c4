-- The runs of nodes that a walk is in (src/tree.rt).
use Rattle.std.specs.Prelude.{◌≡◌, ◌≢◌, ◌⊎◌, ℕ, ◌+◌, ◌-◌, ◌^◌, ◌<◌, ◌≤◌, min, List, [], ◌∷◌, ◌++◌, Option, Some, None, IfSome, option_map, option_to_list}
use Rattle.std.specs.List.{All}
use Rattle.capnp.specs.Prelude.{message_of}
use Rattle.capnp_frame.specs.declared.error.ErrorKind.TheVariants.{NestingLimitExceeded, ReadLimitExceeded}
use Rattle.capnp_layout.specs.Prelude.{word_at, places, pointer_places, room_of, shape_of}
use Rattle.capnp_layout.specs.declared.place.Place.{Place}
use Rattle.capnp_layout.specs.declared.pointer.StructSize.{StructSize}
use Rattle.capnp_show.specs.declared.objects.Object.{Object}
use Rattle.capnp_show.specs.declared.tree.Label.{Label}
use Rattle.capnp_show.specs.declared.tree.Label.TheVariants.{Root as RootLabel, Pointer as PointerLabel, Element as ElementLabel}
use Rattle.capnp_show.specs.declared.tree.Node.{Node}
use Rattle.capnp_show.specs.declared.tree.Found.{Found}
use Rattle.capnp_show.specs.declared.tree.Found.TheVariants.{Null, Object as AnObject, Element, Invalid}
use Rattle.capnp_show.specs.declared.tree.NodeRun.{NodeRun}
use Rattle.capnp_show.specs.declared.tree.NodeRunKind.{NodeRunKind}
use Rattle.capnp_show.specs.declared.tree.NodeRunKind.TheVariants.{Root, Pointers, Elements}
use Rattle.capnp_show.specs.Objects.{object_traversed, further, words_of_struct, IsFoundObject, PlaceError}

-- how many words the next node of a run comes after this one
abbrev pub step_of : NodeRunKind → ℕ
step_of Root = 1
step_of Pointers = 1
step_of (Elements size) = words_of_struct size

-- a node's label, by its run and its number there
abbrev pub label_of : NodeRunKind → ℕ → Label
label_of Root index = RootLabel
label_of Pointers index = PointerLabel index
label_of (Elements size) index = ElementLabel index

-- a run once its next node has come
abbrev pub run_after : NodeRun → NodeRun
run_after run = record run { index = min (run.index + 1) (2 ^ 64 - 1); next = further run.next (step_of run.kind) }

-- the pointers of a struct below a run
abbrev pub pointers_run : NodeRun → Place → StructSize → ℕ → NodeRun
pointers_run run start size nesting = record {
  index = 0;
  count = size.pointers;
  next = further start size.data_words;
  kind = Pointers;
  depth = min (run.depth + 1) (2 ^ 64 - 1);
  nesting = nesting;
}

-- no node of a run is left
abbrev pub IsSpent : NodeRun → Type 0
IsSpent run = run.count ≤ run.index

-- the places of the pointers that some nodes of a run have, from its next one on: the nodes themselves, or
-- the pointers of elements
abbrev pub places_of_pointers : NodeRunKind → Place → ℕ → List Place
places_of_pointers Root next count = places next.segment next.word count
places_of_pointers Pointers next count = places next.segment next.word count
places_of_pointers (Elements size) next count = pointer_places next.segment next.word size.data_words size.pointers count

-- the pointers of an object whose words are within 2^61
abbrev pub children_by : Object → List Place → Type 0
children_by object children = (words : List ℕ) → object.start.word + room_of object.body < 2 ^ 61
    → children ≡ (shape_of words object.start object.body).children

-- The nodes below an object that a run leads to, one deeper: its pointers, or elements that together have
-- just these pointers. There are none where it has no pointers.
pub record IsRunBelow (run : NodeRun) (object : Object) (below : NodeRun) : Type 0 where
  pub first : below.index ≡ 0
  pub depth : below.depth ≡ min (run.depth + 1) (2 ^ 64 - 1)
  pub nesting : below.nesting ≡ run.nesting - 1
  pub children : children_by object (places_of_pointers below.kind below.next below.count)

abbrev pub IsBelow : NodeRun → Object → Option NodeRun → Type 0
IsBelow run object None = children_by object []
IsBelow run object (Some below) = IsRunBelow run object below

-- What is found at a pointer, at some nesting depth left and within what is left of the limit: null, the object that it leads
-- to, or why there is none to show.
abbrev pub Finds : List (List ℕ) → Place → ℕ → Option ℕ → Found → Type 0
Finds segments place nesting left Null = word_at (message_of segments) place ≡ Some 0
Finds segments place nesting left (AnObject object) = IsFoundObject segments place object × (0 < nesting)
    × IfSome left (λ most. object_traversed object ≤ most)
Finds segments place nesting left (Element start size) = ⊥
Finds segments place nesting left (Invalid kind) = PlaceError segments place kind
    ⊎ ((object : Object) × IsFoundObject segments place object × (nesting ≡ 0) × (kind ≡ NestingLimitExceeded))
    ⊎ ((object : Object) × (most : ℕ) × IsFoundObject segments place object × (left ≡ Some most) × (0 < nesting)
    × (most < object_traversed object) × (kind ≡ ReadLimitExceeded))

-- The next node of a run: where it is and how deep, and what is found there.
pub record IsNodeOf (segments : List (List ℕ)) (run : NodeRun) (left : Option ℕ) (node : Node) : Type 0 where
  pub place : node.place ≡ run.next
  pub depth : node.depth ≡ run.depth
  pub label : node.label ≡ label_of run.kind run.index
  pub element : (size : StructSize) → run.kind ≡ Elements size → node.found ≡ Element run.next size
  pub found : ((size : StructSize) → run.kind ≡ Elements size → ⊥) → Finds segments run.next run.nesting left node.found

-- The runs that are left once something is found at the node of a run: the ones before, and the one below
-- what is found; none where the limit of words ends the walk.
abbrev pub LeavesRuns : NodeRun → Found → List NodeRun → List NodeRun → Type 0
LeavesRuns run Null runs left = left ≡ runs
LeavesRuns run (AnObject object) runs left = (below : Option NodeRun) × IsBelow run object below × (left ≡ runs ++ option_to_list below)
LeavesRuns run (Element start size) runs left = left ≡ runs ++ pointers_run run start size run.nesting ∷ []
LeavesRuns run (Invalid kind) runs left = (kind ≡ ReadLimitExceeded → left ≡ []) × (kind ≢ ReadLimitExceeded → left ≡ runs)

-- and the words that are left: the words of an object are taken off
abbrev pub LeavesWords : Found → Option ℕ → Option ℕ → Type 0
LeavesWords Null words left = left ≡ words
LeavesWords (AnObject object) words left = left ≡ option_map (λ most. most - object_traversed object) words
LeavesWords (Element start size) words left = left ≡ words
LeavesWords (Invalid kind) words left = kind ≢ ReadLimitExceeded → left ≡ words

-- A node comes of some runs: the next node of the last run that has one left. `runs_left` and `words_left`
-- are the runs and words that are left after it.
pub record Comes (segments : List (List ℕ)) (runs : List NodeRun) (words : Option ℕ) (node : Node) (runs_left : List NodeRun)
    (words_left : Option ℕ) : Type 0 where
  pub before : List NodeRun
  pub run : NodeRun
  pub spent : List NodeRun
  pub runs_are : runs ≡ before ++ run ∷ spent
  pub are_spent : All IsSpent spent
  pub one_left : run.index < run.count
  pub node_is : IsNodeOf segments run words node
  pub leaves_runs : LeavesRuns run node.found (before ++ run_after run ∷ []) runs_left
  pub leaves_words : LeavesWords node.found words words_left
