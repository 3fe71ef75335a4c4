-- A message that is built, whose root is a tree.
use Rattle.std.specs.Prelude.{⊤, ◌≡◌, ◌⊎◌, ℕ, ◌+◌, ◌-◌, ◌*◌, ◌/◌, ◌^◌, ◌<◌, ◌≤◌, Bool, List, zero, suc, [], ◌∷◌, length, map, Option, Some, None}
use Rattle.std.specs.Prelude.{take, drop, MatchOption}
use Rattle.capnp_layout.specs.Prelude.{words_of, Form, struct, numbers, Trees, none, tree, count, total_words, message_of, word_at, At, root, Root, pointer, far_pointer, layout, Laid, output, AllHaveRoom}
use Rattle.capnp_layout.specs.declared.place.Place.{Place}
use Rattle.capnp_build.specs.Bytes.{Space}
use Rattle.capnp_build.specs.Out.{Out}
use Rattle.capnp_build.specs.BuilderState.{BuilderState, pairs as pairs_of, used_of, space_at}
use Rattle.capnp_build.specs.declared.arena.location.RootLocation.{RootLocation}
use Rattle.capnp_build.specs.declared.root_kind.RootKind.{RootKind}
use Rattle.capnp_build.specs.declared.root_kind.RootKind.TheVariants.{Null, Bytes, Words, Struct, Other}

-- the message in the segments: their used words
abbrev pub message : List Space → List (List ℕ)
message spaces = message_of (map used_of spaces)

-- the words that are used
abbrev pub size_in_words : List Space → ℕ
size_in_words [] = 0
size_in_words (space ∷ spaces) = length space.used / 8 + size_in_words spaces

-- the root is null, also where there is no segment yet
abbrev pub HasNullRoot : List Space → Type 0
HasNullRoot spaces = (spaces ≡ []) ⊎ (word_at (message spaces) root ≡ Some 0)

-- the segments in order, where the root's tree is, and the allocator in its present state
pub record Built (A : Type 0) : Type 0 where
  pub spaces : List Space
  pub location : Option RootLocation
  pub allocator : A

-- its segments, and the allocator that they come from
abbrev pub state_of : {A : Type 0} → Built A → BuilderState A
state_of built = record { spaces = built.spaces; allocator = built.allocator }

-- `fact` holds of the form of the root's tree
abbrev pub ForRoot : List Space → (Form → Type 0) → Type 0
ForRoot spaces fact = (form : Form) (children : Trees) (traversed : ℕ) → Root (message spaces) form children traversed → fact form

-- this is the kind of the root's object, if that is null, a struct, or a list of bytes or of words
abbrev pub IsRootKind : RootKind → List Space → Type 0
IsRootKind Null spaces = ⊤
IsRootKind (Bytes n) spaces = (values : List ℕ) × (traversed : ℕ) × Root (message spaces) (numbers 2 values) none traversed × (length values ≡ n)
IsRootKind (Words n) spaces = (values : List ℕ) × (traversed : ℕ) × Root (message spaces) (numbers 5 values) none traversed × (length values ≡ n)
IsRootKind (Struct n) spaces = (words : List ℕ) × (children : Trees) × (traversed : ℕ) × Root (message spaces) (struct words) children traversed × (length words ≡ n)
IsRootKind Other spaces = (form : Form) × (children : Trees) × (traversed : ℕ) × Root (message spaces) form children traversed

-- the root's own word: to a body in the first segment, or to a landing pad just before the body in
-- another one
abbrev pub root_word : ℕ → ℕ → Form → Trees → ℕ
root_word zero start form children = pointer form (count children) (start - 1)
root_word (suc k) start form children = far_pointer (suc k) (start - 1)

abbrev pub landing_pad_of : RootLocation → Place
landing_pad_of location = record { segment = location.segment; word = location.start - 1 }

-- the body of this tree is at this location
pub record HasBody (spaces : List Space) (location : RootLocation) (form : Form) (children : Trees) : Type 0 where
  pub within : location.segment < length spaces
  pub room : 8 * (location.start + location.words) ≤ length (space_at spaces location.segment).used
  pub following : 0 < location.start
  pub local : location.start ≤ 2 ^ 29
  pub rooms : AllHaveRoom (tree form children none)
  pub size : location.words ≡ total_words (tree form children none)
  pub few : location.words < 2 ^ 29
  pub tag : location.pointer_word ≡ pointer form (count children) 0
  pub laid : Laid (words_of (space_at spaces location.segment).used) location.start (tree form children none)

-- the body of some tree is at this location
abbrev pub HasSomeBody : List Space → RootLocation → Type 0
HasSomeBody spaces location = (form : Form) × (children : Trees) × HasBody spaces location form children

-- the body of a value's tree is at this location
pub record HasValue (has_tree : Trees → Type 0) (canonical : Bool) (spaces : List Space) (location : RootLocation) : Type 0 where
  pub trees : Trees
  pub tree_is : has_tree trees
  pub form : Form
  pub children : Trees
  pub same : output canonical trees ≡ tree form children none
  pub body_is : HasBody spaces location form children

-- a tree's body is at this location, and the root points to it
pub record IsLaid (spaces : List Space) (location : RootLocation) (form : Form) (children : Trees) : Type 0 where
  pub body_is : HasBody spaces location form children
  pub root_is : word_at (message spaces) root ≡ Some (root_word location.segment location.start form children)
  pub landing_pad_is : 0 < location.segment → (0 < location.words) × (word_at (message spaces) (landing_pad_of location) ≡ Some location.pointer_word)

-- the used bytes of these segments stay, except for the root's word
abbrev pub KeepsBytes : List Space → List Space → Type 0
KeepsBytes old new = (i from n : ℕ) → (i ≡ 0 → 8 ≤ from) → from + n ≤ length (space_at old i).used
    → take n (drop from (space_at new i).used) ≡ take n (drop from (space_at old i).used)

-- bytes of a segment lie outside of a body
abbrev pub LiesOutside : ℕ → ℕ → ℕ → RootLocation → Type 0
LiesOutside segment from n location = segment ≡ location.segment → (from + n ≤ 8 * location.start) ⊎ (8 * location.start + 8 * location.words ≤ from)

-- the used bytes outside of the root's body stay, except for the root's word
abbrev pub KeepsOutside : Option RootLocation → List Space → List Space → Type 0
KeepsOutside location old new = (i from n : ℕ) → (i ≡ 0 → 8 ≤ from) → MatchOption location ⊤ (LiesOutside i from n) → from + n ≤ length (space_at old i).used
    → take n (drop from (space_at new i).used) ≡ take n (drop from (space_at old i).used)

-- the same segments, though some used bytes may be different
pub record IsRewritten {A : Type 0} (old new : BuilderState A) : Type 0 where
  pub count : length new.spaces ≡ length old.spaces
  pub size : size_in_words new.spaces ≡ size_in_words old.spaces
  pub used : (i : ℕ) → length (space_at new.spaces i).used ≡ length (space_at old.spaces i).used
  pub sizes : (i : ℕ) → (space_at new.spaces i).size ≡ (space_at old.spaces i).size
  pub allocator : new.allocator ≡ old.allocator
  pub pairs : (others : List Out) → pairs_of new.spaces others ≡ pairs_of old.spaces others

-- the same segments, but one of them has this many more used words
pub record IsLonger {A : Type 0} (old new : BuilderState A) (segment words : ℕ) : Type 0 where
  pub count : length new.spaces ≡ length old.spaces
  pub size : size_in_words new.spaces ≡ size_in_words old.spaces + words
  pub used : length (space_at new.spaces segment).used ≡ length (space_at old.spaces segment).used + 8 * words
  pub first : 0 < segment → space_at new.spaces 0 ≡ space_at old.spaces 0
  pub each : (i : ℕ) → length (space_at old.spaces i).used ≤ length (space_at new.spaces i).used
  pub bytes : KeepsBytes old.spaces new.spaces
  pub sizes : (i : ℕ) → (space_at new.spaces i).size ≡ (space_at old.spaces i).size
  pub allocator : new.allocator ≡ old.allocator
  pub pairs : (others : List Out) → pairs_of new.spaces others ≡ pairs_of old.spaces others

-- the root is null, also where there is no segment yet, or a tree is there
abbrev pub IsBuilt : List Space → Option RootLocation → Type 0
IsBuilt spaces None = HasNullRoot spaces
IsBuilt spaces (Some location) = (form : Form) × (children : Trees) × IsLaid spaces location form children

-- the root is a value's tree
pub record IsSet (has_tree : Trees → Type 0) (canonical : Bool) (spaces : List Space) : Type 0 where
  pub trees : Trees
  pub tree_is : has_tree trees
  pub traversed : ℕ
  pub is_at : At (message spaces) (root ∷ []) (output canonical trees) traversed

-- the one segment is the layout of a value, and nothing else: in canonical form, its canonical form
pub record IsWhole (has_tree : Trees → Type 0) (canonical : Bool) (spaces : List Space) : Type 0 where
  pub trees : Trees
  pub tree_is : has_tree trees
  pub words_are : message spaces ≡ layout (output canonical trees) ∷ []
