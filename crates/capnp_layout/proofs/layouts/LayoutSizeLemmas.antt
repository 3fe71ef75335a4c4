-- How long the parts of a layout are, and that the slots of an object lie within it.
use Rattle.std.proofs.lemmas.List.Elements.{All-head, All-tail}
use Rattle.std.proofs.Common.{◌≡◌, ℕ, zero, suc, ◌+◌, ◌*◌, ◌^◌, ◌<◌, ◌≤◌, List, [], ◌∷◌, ◌++◌, length, take, drop, refl, sym, ◌∙◌, ap, subst, arith, length-append, length-take, length-drop}
use Rattle.std.specs.Prelude.{All, ⊤}
use Rattle.capnp_layout.specs.Prelude.{number_of, width, words_for, Form, null, struct, numbers, pointers, structs, Trees, none, tree, count, object_size, total_words, run, element_runs, slots, pointers_to, woven, own, body, HasRoom, AllHaveRoom}
use Rattle.capnp_layout.proofs.words.DigitsToNumberAndBackLemmas.{length-digits}
use Rattle.capnp_layout.proofs.pointers.LayoutSlotPointersAndPlacesLemmas.{AllOf}

-- slots that lie before a word of their object
abbrev pub Before : ℕ → List ℕ → Type 0
Before next [] = ⊤
Before next (slot ∷ slots) = (slot < next) × Before next slots

before_append : (next : ℕ) (s t : List ℕ) → Before next s → Before next t → Before next (s ++ t)
before_append next [] t a b = b
before_append next (x ∷ s) t a b = (a.0, before_append next s t a.1 b)

pub before_more : (next more : ℕ) (s : List ℕ) → next ≤ more → Before next s → Before more s
before_more next more [] le b = tt
before_more next more (x ∷ s) le b = let first : x < next = b.0 in (omega arith, before_more next more s le b.1)

pub length-run : (start n : ℕ) → length (run start n) ≡ n
length-run start zero = refl
length-run start (suc n) = ap (λ (k : ℕ). suc k) (length-run (start + 1) n)

pub length-element_runs : (start d p : ℕ) (elements : List (List ℕ)) → length (element_runs start d p elements) ≡ length elements * p
length-element_runs start d p [] = omega arith
length-element_runs start d p (element ∷ elements) =
    let rest = length-element_runs (start + d + p) d p elements in
    omega (arith, length-append (run (start + d) p) (element_runs (start + d + p) d p elements), length-run (start + d) p)

run_before : (start n next : ℕ) → start + n ≤ next → Before next (run start n)
run_before start zero next le = tt
run_before start (suc n) next le = (omega arith, run_before (start + 1) n next (omega arith))

element_runs_before : (start d p : ℕ) (elements : List (List ℕ)) (next : ℕ) → start + length elements * (d + p) ≤ next → Before next (element_runs start d p elements)
element_runs_before start d p [] next le = tt
element_runs_before start d p (element ∷ elements) next le =
    before_append next (run (start + d) p) (element_runs (start + d + p) d p elements) (run_before (start + d) p next (omega arith)) (element_runs_before (start + d + p) d p elements next (omega arith))

pub length-slots : (form : Form) (n : ℕ) → HasRoom form n → length (slots form n) ≡ n
length-slots null n room = length-run 0 n
length-slots (struct words) n room = length-run (length words) n
length-slots (numbers c values) n room = length-run 0 n
length-slots pointers n room = length-run 0 n
length-slots (structs d p elements) n room = length-element_runs 1 d p elements ∙ sym room.4

pub slots_before : (form : Form) (n : ℕ) → HasRoom form n → Before (object_size form n) (slots form n)
slots_before null n room = run_before 0 n 0 (omega arith)
slots_before (struct words) n room = run_before (length words) n (length words + n) (omega arith)
slots_before (numbers c values) n room = let empty : n ≡ 0 = room.2 in run_before 0 n (words_for (length values) (width c)) (omega arith)
slots_before pointers n room = run_before 0 n n (omega arith)
slots_before (structs d p elements) n room = element_runs_before 1 d p elements (1 + length elements * (d + p)) (omega arith)

pub length-woven : (d p : ℕ) (elements : List (List ℕ)) (links : List ℕ) → AllOf d elements → length links ≡ length elements * p → length (woven p elements links) ≡ length elements * (d + p)
length-woven d p [] links even long = omega arith
length-woven d p (element ∷ elements) links even long =
    let wide : length element ≡ d = All-head (λ r. length r ≡ d) element elements even in
    let split : suc (length elements) * p ≡ p + length elements * p = omega arith in
    let rest = length-woven d p elements (drop p links) (All-tail (λ r. length r ≡ d) element elements even) (omega (arith, length-drop p links)) in
    omega (arith, length-append (element ++ take p links) (woven p elements (drop p links)), length-append element (take p links), length-take p links)

-- the elements of a list of structs with room
pub elements_even : (d : ℕ) (elements : List (List ℕ)) → All (λ element. (length element ≡ d) × All (λ w. w < 2 ^ 64) element) elements → AllOf d elements
elements_even d elements all = λ k e within. (all k e within).0

pub length-own : (form : Form) (links : List ℕ) → HasRoom form (length links) → length (own form links) ≡ object_size form (length links)
length-own null links room = refl
length-own (struct words) links room = length-append words links
length-own (numbers c values) links room = length-digits (2 ^ 64) (words_for (length values) (width c)) (number_of (2 ^ width c) values)
length-own pointers links room = refl
length-own (structs d p elements) links room =
    let rest = length-woven d p elements links (elements_even d elements room.5) room.4 in
    omega arith

pub length-pointers_to : (slots : List ℕ) (next : ℕ) (trees : Trees) → length slots ≡ count trees → length (pointers_to slots next trees) ≡ count trees
length-pointers_to slots next none long = refl
length-pointers_to [] next (tree form children rest) long = absurd (omega arith)
length-pointers_to (slot ∷ slots) next (tree form children rest) long =
    let others = length-pointers_to slots (next + object_size form (count children) + total_words children) rest (omega arith) in
    omega arith

-- the pointer words of an object
abbrev pub links_of : Form → Trees → List ℕ
links_of form children = pointers_to (slots form (count children)) (object_size form (count children)) children

pub length-links : (form : Form) (children : Trees) → HasRoom form (count children) → length (links_of form children) ≡ count children
length-links form children room = length-pointers_to (slots form (count children)) (object_size form (count children)) children (length-slots form (count children) room)

pub length-own_of : (form : Form) (children : Trees) → HasRoom form (count children) → length (own form (links_of form children)) ≡ object_size form (count children)
length-own_of form children room =
    let long : length (links_of form children) ≡ count children = length-links form children room in
    let own_long : length (own form (links_of form children)) ≡ object_size form (length (links_of form children)) =
    length-own form (links_of form children) (subst (λ (n : ℕ). HasRoom form n) (sym long) room) in
    own_long ∙ ap (object_size form) long

pub length-body : (trees : Trees) → AllHaveRoom trees → length (body trees) ≡ total_words trees
length-body none room = refl
length-body (tree form children rest) room =
    let links : List ℕ = links_of form children in
    let first : length (own form (links_of form children)) ≡ object_size form (count children) = length-own_of form children room.0 in
    let inner = length-body children room.1 in
    let others = length-body rest room.2 in
    omega (arith, length-append (own form (links_of form children) ++ body children) (body rest), length-append (own form (links_of form children)) (body children))
