-- Trees without the trailing zero words of their objects: trees are compared trimmed.
use Rattle.std.specs.Prelude.{ℕ, zero, suc, max, List, [], ◌∷◌, length, map, take}
use Rattle.capnp_layout.specs.Tree.{Form, null, struct, structs, Trees, none, tree, count}

-- the first n trees, the trees after these, and trees in front of others
abbrev pub first : ℕ → Trees → Trees
first zero trees = none
first (suc n) none = none
first (suc n) (tree form children rest) = tree form children (first n rest)

abbrev pub following : ℕ → Trees → Trees
following zero trees = trees
following (suc n) none = none
following (suc n) (tree form children rest) = following n rest

abbrev pub before : Trees → Trees → Trees
before none others = others
before (tree form children rest) others = tree form children (before rest others)

-- Words without the zeros at their end, trees without the nulls at their end, built from the end.
abbrev pub keep_word : List ℕ → ℕ → List ℕ
keep_word (next ∷ rest) word = word ∷ next ∷ rest
keep_word [] zero = []
keep_word [] (suc n) = suc n ∷ []

abbrev pub cut_zeros : List ℕ → List ℕ
cut_zeros [] = []
cut_zeros (word ∷ words) = keep_word (cut_zeros words) word

abbrev pub keep_tree : Trees → Form → Trees → Trees
keep_tree (tree f h r) form children = tree form children (tree f h r)
keep_tree none null children = none
keep_tree none form children = tree form children none

abbrev pub cut_nulls : Trees → Trees
cut_nulls none = none
cut_nulls (tree form children rest) = keep_tree (cut_nulls rest) form children

-- the most data words, and the most pointers, that an element of a list of structs needs
abbrev pub least_data : List (List ℕ) → ℕ
least_data [] = 0
least_data (element ∷ elements) = max (length (cut_zeros element)) (least_data elements)

abbrev pub least_pointers : ℕ → List (List ℕ) → Trees → ℕ
least_pointers p [] children = 0
least_pointers p (element ∷ elements) children = max (count (cut_nulls (first p children))) (least_pointers p elements (following p children))

-- the first n of each p pointers
abbrev pub narrowed : ℕ → ℕ → List (List ℕ) → Trees → Trees
narrowed n p [] children = none
narrowed n p (element ∷ elements) children = before (first n (first p children)) (narrowed n p elements (following p children))

-- what trimming leaves of a form, and of the trees below it, where these are trimmed already
abbrev pub trim_form : Form → Trees → Form
trim_form (struct words) children = struct (cut_zeros words)
trim_form (structs d p elements) children = let n = least_data elements in structs n (least_pointers p elements children) (map (take n) elements)
trim_form form children = form

abbrev pub trim_children : Form → Trees → Trees
trim_children (struct words) children = cut_nulls children
trim_children (structs d p elements) children = narrowed (least_pointers p elements children) p elements children
trim_children form children = children

-- trees trimmed at every depth
abbrev pub trim : Trees → Trees
trim none = none
trim (tree form children rest) = let inner = trim children in tree (trim_form form inner) (trim_children form inner) (trim rest)
