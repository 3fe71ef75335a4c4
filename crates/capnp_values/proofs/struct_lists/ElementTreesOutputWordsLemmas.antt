-- Lists of structs: the trees of their elements' fields, untrimmed or in canonical form, and their words.
use Rattle.std.proofs.Common.{◌≡◌, ℕ, suc, ◌+◌, ◌*◌, ◌<◌, ◌^◌, Bool, true, false, max, List, [], ◌∷◌, length, map, take, refl, sym, ◌∙◌, ap, subst, arith}
use Rattle.std.specs.Prelude.{All}
use Rattle.std.proofs.lemmas.List.{take_all, length-map}
use Rattle.std.proofs.lemmas.List.Elements.{All-head, All-tail}
use Rattle.capnp_layout.specs.Prelude.{structs, Trees, none, tree, count, total_words, first, following, before, cut_nulls, least_pointers, narrowed, trim, output, AllHaveRoom}
use Rattle.capnp_layout.proofs.trees.TrimCommutesWithPartsLemmas.{trim_before}
use Rattle.capnp_layout.proofs.trees.PointerNarrowingIdempotenceLemmas.{first-before, following-before, first_all}
use Rattle.capnp_layout.proofs.trees.TreePartsSizeAndPropertiesLemmas.{count-first, count-before, count-following, total-before, before_chunks}
use Rattle.capnp_layout.proofs.trees.TreeSizeUntrimmedAndTrimmedLemmas.{total_narrowed}
use Rattle.capnp_layout.proofs.trees.TrimIdempotenceAndSizeLemmas.{room_trim}
use Rattle.capnp_values.specs.Fields.{IsSettled, kept_fields}
use Rattle.capnp_values.specs.StructLists.{AreElements, element_data, element_pointers, output_children, AreEven}
use Rattle.capnp_values.proofs.lists.PointerListMeasureLemmas.{count_output}

-- the fields of some structs
pub rooms_before : (a b : Trees) → AllHaveRoom a → AllHaveRoom b → AllHaveRoom (before a b)
rooms_before none b x y = y
rooms_before (tree form children rest) b x y = (x.0, x.1, rooms_before rest b x.2 y)

settled_no_elements : (p : ℕ) → IsSettled (0 * p) none
settled_no_elements p = record { many = omega arith; rooms = tt; few = omega arith }

pub elements_settled : {V : Type 0} (h : V → Trees → Type 0) (p : ℕ) → ((v : V) (t : Trees) → h v t → IsSettled p t) → (vs : List V) (t : Trees) → AreElements h vs t → IsSettled (length vs * p) t
elements_settled h p s [] t is = subst (λ (x : Trees). IsSettled (0 * p) x) (sym is) (settled_no_elements p)
elements_settled h p s (v ∷ vs) t is =
    let a = s v is.fields is.fields_is in
    let b = elements_settled h p s vs is.rest is.others in
    let split : suc (length vs) * p ≡ p + length vs * p = omega arith in
    subst (λ (x : Trees). IsSettled (suc (length vs) * p) x) (sym is.whole)
    (record {
      many = omega (arith, count-before is.fields is.rest, a.many, b.many, split);
      rooms = rooms_before is.fields is.rest a.rooms b.rooms;
      few = omega (arith, total-before is.fields is.rest, a.few, b.few, split);
    })

output_before : (c : Bool) (a b : Trees) → output c (before a b) ≡ before (output c a) (output c b)
output_before true a b = trim_before a b
output_before false a b = refl

-- one struct's fields in front of others
pub record IsFirstElement (c : Bool) (p : ℕ) (fields rest children : Trees) : Type 0 where
  pub own : first p (output c children) ≡ output c fields
  pub others : following p (output c children) ≡ output c rest

pub in_front : (c : Bool) (p : ℕ) (fields rest children : Trees) → children ≡ before fields rest → count fields ≡ p → IsFirstElement c p fields rest children
in_front c p fields rest children whole many =
    let t : output c children ≡ before (output c fields) (output c rest) = ap (output c) whole ∙ output_before c fields rest in
    let long : count (output c fields) ≡ p = sym (count_output c fields) ∙ many in
    record {
      own = ap (first p) t ∙ first-before p (output c fields) (output c rest) long;
      others = ap (following p) t ∙ following-before p (output c fields) (output c rest) long;
    }

pub shown_front : (c : Bool) (m p : ℕ) (ws : List ℕ) (elements : List (List ℕ)) (fields rest children : Trees) → children ≡ before fields rest → count fields ≡ p
    → output_children c m p (ws ∷ elements) children ≡ before (first m (output c fields)) (output_children c m p elements rest)
shown_front c m p ws elements fields rest children whole many =
    let f = in_front c p fields rest children whole many in
    ap (λ (t : Trees). before (first m t) (narrowed m p elements (following p (output c children)))) f.own
    ∙ ap (λ (t : Trees). before (first m (output c fields)) (narrowed m p elements t)) f.others

pub pointers_front : (c : Bool) (p : ℕ) (ws : List ℕ) (elements : List (List ℕ)) (fields rest children : Trees) → children ≡ before fields rest → count fields ≡ p
    → element_pointers c p (ws ∷ elements) children ≡ max (count (kept_fields c fields)) (element_pointers c p elements rest)
pointers_front true p ws elements fields rest children whole many =
    let f = in_front true p fields rest children whole many in
    ap (λ (t : Trees). max (count (cut_nulls t)) (least_pointers p elements (following p (trim children)))) f.own
    ∙ ap (λ (t : Trees). max (count (cut_nulls (trim fields))) (least_pointers p elements t)) f.others
pointers_front false p ws elements fields rest children whole many = omega (arith, many)

pub total_front : (c : Bool) (fields rest children : Trees) → children ≡ before fields rest → total_words (output c children) ≡ total_words (output c fields) + total_words (output c rest)
total_front c fields rest children whole = ap total_words (ap (output c) whole ∙ output_before c fields rest) ∙ total-before (output c fields) (output c rest)

-- a list in the form that is written
take_even : (d : ℕ) (elements : List (List ℕ)) → AreEven d elements → map (take d) elements ≡ elements
take_even d [] even = refl
take_even d (element ∷ elements) even =
    let wide : length element ≡ d = (All-head (λ r. (length r ≡ d) × All (λ w. w < 2 ^ 64) r) element elements even).0 in
    let one : take d element ≡ element = take_all d element (omega (arith, wide)) in
    let rest : map (take d) elements ≡ elements = take_even d elements (All-tail (λ r. (length r ≡ d) × All (λ w. w < 2 ^ 64) r) element elements even) in
    ap (λ (l : List ℕ). l ∷ map (take d) elements) one ∙ ap (λ (l : List (List ℕ)). element ∷ l) rest

narrowed_all : (p : ℕ) (elements : List (List ℕ)) (children : Trees) → count children ≡ length elements * p → narrowed p p elements children ≡ children
narrowed_all p [] none long = refl
narrowed_all p [] (tree form children rest) long = absurd (omega arith)
narrowed_all p (element ∷ elements) children long =
    let split : suc (length elements) * p ≡ p + length elements * p = omega arith in
    let many : count (first p children) ≡ p = omega (arith, count-first p children (omega arith)) in
    let rest : narrowed p p elements (following p children) ≡ following p children = narrowed_all p elements (following p children) (omega (arith, count-following p children (omega arith))) in
    ap (λ (t : Trees). before t (narrowed p p elements (following p children))) (first_all p (first p children) many)
    ∙ ap (λ (t : Trees). before (first p children) t) rest ∙ before_chunks p children

pub structs_output : (c : Bool) (d p : ℕ) (elements : List (List ℕ)) (children : Trees) → AreEven d elements → count children ≡ length elements * p
    → output c (tree (structs d p elements) children none)
    ≡ tree (structs (element_data c d elements) (element_pointers c p elements children) (map (take (element_data c d elements)) elements)) (output_children c (element_pointers c p elements children) p elements children) none
structs_output true d p elements children even long = refl
structs_output false d p elements children even long =
    ap (λ (l : List (List ℕ)). tree (structs d p l) children none) (sym (take_even d elements even))
    ∙ ap (λ (t : Trees). tree (structs d p (map (take d) elements)) t none) (sym (narrowed_all p elements children long))

pub total_shown : (c : Bool) (p : ℕ) (elements : List (List ℕ)) (children : Trees) → AllHaveRoom children → count children ≡ length elements * p
    → total_words (output_children c (element_pointers c p elements children) p elements children) ≡ total_words (output c children)
total_shown true p elements children rooms long =
    total_narrowed (least_pointers p elements (trim children)) p elements (trim children) (room_trim children rooms) (omega (arith, count_output true children, long)) (omega arith)
total_shown false p elements children rooms long = ap total_words (narrowed_all p elements children long)

pub structs_value_total : (c : Bool) (d p : ℕ) (elements : List (List ℕ)) (children : Trees) → AllHaveRoom children → count children ≡ length elements * p
    → total_words (output c (tree (structs d p elements) children none)) ≡ 1 + length elements * (element_data c d elements + element_pointers c p elements children) + total_words (output c children)
structs_value_total true d p elements children rooms long =
    let same : length (map (take (element_data true d elements)) elements) ≡ length elements = length-map elements (take (element_data true d elements)) in
    let size : length (map (take (element_data true d elements)) elements) * (element_data true d elements + element_pointers true p elements children) ≡ length elements * (element_data true d elements + element_pointers true p elements children) =
    ap (λ (n : ℕ). n * (element_data true d elements + element_pointers true p elements children)) same in
    omega (arith, size, total_shown true p elements children rooms long)
structs_value_total false d p elements children rooms long = omega arith
