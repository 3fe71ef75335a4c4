-- The values of messages.
use Rattle.std.specs.Prelude.{ℕ, ◌+◌, ◌*◌, max, Bool, true, false, if◌then◌else◌, List, length}
use Rattle.capnp_layout.specs.Element.{width, words_for}

-- what an object has in addition to the trees of its pointers; null has nothing
pub data Form : Type 0 where
  null : Form
  -- its data words
  struct : List ℕ → Form
  -- a list of code 0 to 5: its elements' bits, lowest first, as numbers
  numbers : ℕ → List ℕ → Form
  -- a list of pointers
  pointers : Form
  -- a list of structs: words of data and of pointers of each, and the data of each
  structs : ℕ → ℕ → List (List ℕ) → Form

-- Trees, one after the other: the form of the first, the trees below it, the trees after it. Below
-- a list of structs are the trees of its elements in order.
pub data Trees : Type 0 where
  none : Trees
  tree : Form → Trees → Trees → Trees

abbrev pub count : Trees → ℕ
count none = 0
count (tree form children rest) = count rest + 1

abbrev pub is_null : Form → Bool
is_null null = true
is_null _ = false

-- the longest chain of objects, each with a pointer to the next
abbrev pub depth : Trees → ℕ
depth none = 0
depth (tree form children rest) = max (if is_null form then 0 else depth children + 1) (depth rest)

-- the words of an object that has n pointers; for a list of structs, of its tag and its elements
abbrev pub object_size : Form → ℕ → ℕ
object_size null n = 0
object_size (struct words) n = length words + n
object_size (numbers code values) n = words_for (length values) (width code)
object_size pointers n = n
object_size (structs d p elements) n = 1 + length elements * (d + p)

-- the words of trees, without landing pads
abbrev pub total_words : Trees → ℕ
total_words none = 0
total_words (tree form children rest) = object_size form (count children) + total_words children + total_words rest
