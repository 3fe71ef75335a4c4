-- Lists of structs as values: what is measured of them.
use Rattle.std.proofs.Common.{◌≡◌, ℕ, ◌+◌, ◌*◌, ◌<◌, ◌≤◌, ◌^◌, Bool, true, false, List, length, map, Result, Ok, Err, inl, inr, refl, sym, ◌∙◌, ap, subst, arith}
use Rattle.std.specs.Prelude.{min, ◌-◌, ◌⊎◌}
use Rattle.std.proofs.Math.Nat.{mul-le-mul_left}
use Rattle.std.proofs.lemmas.List.{length-map}
use Rattle.capnp_frame.specs.declared.error.Error.{Error}
use Rattle.capnp_frame.specs.declared.error.ErrorKind.{ErrorKind}
use Rattle.capnp_frame.specs.declared.error.ErrorKind.TheVariants.{AllocationTooLarge}
use Rattle.capnp_layout.specs.Prelude.{structs, Trees, none, tree, count, total_words, output, AllHaveRoom}
use Rattle.capnp_layout.proofs.words.TrailingZeroRemovalIdempotenceLemmas.{least_data_within}
use Rattle.capnp_layout.proofs.layouts.LayoutSizeLemmas.{elements_even}
use Rattle.capnp_wire.proofs.views.ValueAsPartTwoMeasuresLemmas.{same_tree_words}
use Rattle.capnp_values.specs.Measured.{tree_words, MeasuresValue}
use Rattle.capnp_values.specs.Fields.{IsSettled}
use Rattle.capnp_wire.specs.declared.traits.TreeWords.{TreeWords}
use Rattle.capnp_values.specs.StructLists.{AreElements, IsStructListTree, TooManyStructs, StructListError, element_data, element_pointers, AreEven, MeasuresElements}
use Rattle.capnp_values.specs.StructListPlaces.{AreDeclared, IsDeclared}
use Rattle.capnp_values.proofs.lists.ItemMeasureLemmas.{measured_few}
use Rattle.capnp_values.proofs.struct_lists.ElementTreesOutputWordsLemmas.{elements_settled, structs_value_total}
use Rattle.capnp_values.proofs.struct_lists.ElementWriteLemmas.{pointers_within}

-- what can be declared of it
pub told : (n d p x y : ℕ) → x ≡ d → y ≡ min p (2 ^ 16) → x < 2 ^ 16 → y < 2 ^ 16 → n < 2 ^ 29 → n * (x + y) < 2 ^ 29 → AreDeclared n d p
told n d p x y x_is y_is a b few small =
    let y_there : y ≡ p = omega (arith, y_is, b) in
    let sum : n * (x + y) ≡ n * (d + p) = ap (λ (k : ℕ). n * (k + y)) x_is ∙ ap (λ (k : ℕ). n * (d + k)) y_there in
    record { few_words = omega (arith, a, x_is); few_pointers = omega (arith, b, y_there); few = few; small = omega (arith, small, sum) }

pub declared_size : (n d p x y : ℕ) → x ≡ d → y ≡ min p (2 ^ 16) → AreDeclared n d p → n * (x + y) ≡ n * (d + p)
declared_size n d p x y x_is y_is t =
    let y_there : y ≡ p = omega (arith, y_is, t.few_pointers) in
    ap (λ (k : ℕ). n * (k + y)) x_is ∙ ap (λ (k : ℕ). n * (d + k)) y_there

not_too_many : (n d p : ℕ) (kind : ErrorKind) → AreDeclared n d p → TooManyStructs n d p kind → ⊥
not_too_many n d p kind t (inl (inl many, is)) = absurd (omega (arith, many, t.few_words))
not_too_many n d p kind t (inl (inr many, is)) = absurd (omega (arith, many, t.few_pointers))
not_too_many n d p kind t (inr (inl many)) = absurd (omega (arith, many.2, t.few))
not_too_many n d p kind t (inr (inr many)) = absurd (omega (arith, many.3, t.small))

data_within : (c : Bool) (d : ℕ) (elements : List (List ℕ)) → AreEven d elements → element_data c d elements ≤ d
data_within true d elements even = least_data_within d elements (elements_even d elements even)
data_within false d elements even = omega arith

pub size_declared : (c : Bool) (n d p e m : ℕ) (elements : List (List ℕ)) (children : Trees) → AreDeclared n d p → AreEven d elements → e ≡ element_data c d elements → m ≡ element_pointers c p elements children → IsDeclared n d p e m
size_declared c n d p e m elements children t even e_is m_is =
    let a : e ≤ d = omega (arith, e_is, data_within c d elements even) in
    let b : m ≤ p = omega (arith, m_is, pointers_within c p elements children) in
    let area : n * (e + m) ≤ n * (d + p) = mul-le-mul_left n (omega (arith, a, b)) in
    record { words_within = a; pointers_within = b; elements = omega (arith, area, t.small) }

pub declared_kept : (n d p x y e m : ℕ) → x ≡ d → y ≡ min p (2 ^ 16) → AreDeclared n d p → IsDeclared n d p e m → IsDeclared n x y e m
declared_kept n d p x y e m x_is y_is t k =
    record { words_within = omega (arith, k.words_within, x_is); pointers_within = omega (arith, k.pointers_within, y_is, t.few_pointers); elements = k.elements }

-- its words
pub struct_list_total : {V : Type 0} (w : V → List ℕ) (h : V → Trees → Type 0) (c : Bool) (d p e m : ℕ) → ((v : V) (t : Trees) → h v t → IsSettled p t) → (vs : List V) (children : Trees) → AreElements h vs children
    → e ≡ element_data c d (map w vs) → m ≡ element_pointers c p (map w vs) children → total_words (output c (tree (structs d p (map w vs)) children none)) ≡ 1 + length vs * (e + m) + total_words (output c children)
struct_list_total w h c d p e m s vs children is e_is m_is =
    let settled = elements_settled h p s vs children is in
    let same : length (map w vs) ≡ length vs = length-map vs w in
    let many : count children ≡ length (map w vs) * p = settled.many ∙ ap (λ (n : ℕ). n * p) (sym same) in
    structs_value_total c d p (map w vs) children settled.rooms many
    ∙ ap (λ (n : ℕ). 1 + n * (element_data c d (map w vs) + element_pointers c p (map w vs) children) + total_words (output c children)) same
    ∙ ap (λ (k : ℕ). 1 + length vs * (k + element_pointers c p (map w vs) children) + total_words (output c children)) (sym e_is)
    ∙ ap (λ (k : ℕ). 1 + length vs * (e + k) + total_words (output c children)) (sym m_is)

pub list_rooms : {V : Type 0} (w : V → List ℕ) (h : V → Trees → Type 0) (d p : ℕ) → ((v : V) (t : Trees) → h v t → IsSettled p t) → (vs : List V) (children : Trees) → AreElements h vs children → AreDeclared (length vs) d p
    → AreEven d (map w vs) → AllHaveRoom (tree (structs d p (map w vs)) children none)
list_rooms w h d p s vs children is t even =
    let settled = elements_settled h p s vs children is in
    let same : length (map w vs) ≡ length vs = length-map vs w in
    let many : count children ≡ length (map w vs) * p = settled.many ∙ ap (λ (n : ℕ). n * p) (sym same) in
    let area : length (map w vs) * (d + p) ≡ length vs * (d + p) = ap (λ (n : ℕ). n * (d + p)) same in
    ((t.few_words, t.few_pointers, omega (arith, same, t.few), omega (arith, area, t.small), many, even), settled.rooms, tt)

-- what is measured of it
list_words : {V : Type 0} (w : V → List ℕ) (h : V → Trees → Type 0) (c : Bool) (d p e m : ℕ) → ((v : V) (t : Trees) → h v t → IsSettled p t) → (vs : List V) (children trees : Trees) (words : TreeWords)
    → AreElements h vs children → e ≡ element_data c d (map w vs) → m ≡ element_pointers c p (map w vs) children → words ≡ tree_words c children → trees ≡ tree (structs d p (map w vs)) children none
    → record { untrimmed = 1 + length vs * (d + p) + words.untrimmed; output = 1 + length vs * (e + m) + words.output } ≡ tree_words c trees
list_words w h c d p e m s vs children trees words is e_is m_is words_is whole =
    let a : words.output ≡ total_words (output c children) = ap (λ (x : TreeWords). x.output) words_is in
    let b : words.untrimmed ≡ total_words children = ap (λ (x : TreeWords). x.untrimmed) words_is in
    let same : length (map w vs) * (d + p) ≡ length vs * (d + p) = ap (λ (n : ℕ). n * (d + p)) (length-map vs w) in
    same_tree_words (record { untrimmed = 1 + length vs * (d + p) + words.untrimmed; output = 1 + length vs * (e + m) + words.output }) (tree_words c (tree (structs d p (map w vs)) children none))
    (omega (arith, b, same)) (omega (arith, a, struct_list_total w h c d p e m s vs children is e_is m_is))
    ∙ sym (ap (tree_words c) whole)

-- what each of some structs keeps
pub record KeepsOf {V : Type 0} (w : V → List ℕ) (h : V → Trees → Type 0) (c : Bool) (d p e m : ℕ) (vs : List V) : Type 0 where
  pub words : (children : Trees) → AreElements h vs children → e ≡ element_data c d (map w vs)
  pub pointers : (children : Trees) → AreElements h vs children → m ≡ element_pointers c p (map w vs) children

pub struct_list_measured : {V : Type 0} (w : V → List ℕ) (h : V → Trees → Type 0) (r : V → ErrorKind → Type 0) (c : Bool) (d p e m : ℕ) → ((v : V) (t : Trees) → h v t → IsSettled p t) → (vs : List V)
    (words : TreeWords) (returned : Result TreeWords Error) (untrimmed output_words : ℕ) → AreDeclared (length vs) d p → returned ≡ Ok words → MeasuresElements w h r c d vs returned → KeepsOf w h c d p e m vs
    → untrimmed ≡ 1 + length vs * (d + p) + words.untrimmed → output_words ≡ 1 + length vs * (e + m) + words.output
    → MeasuresValue (λ t. IsStructListTree w h d p vs t) (λ k. StructListError h r d p vs k) c (Ok (record { untrimmed = untrimmed; output = output_words }))
struct_list_measured w h r c d p e m s vs words returned untrimmed output_words t was elements kept untrimmed_same output_is =
    let ok : MeasuresElements w h r c d vs (Ok words) = subst (λ (x : Result TreeWords Error). MeasuresElements w h r c d vs x) was elements in
    let a = ok.measured.returned in
    let own : record { untrimmed = untrimmed; output = output_words } ≡ record { untrimmed = 1 + length vs * (d + p) + words.untrimmed; output = 1 + length vs * (e + m) + words.output } =
    same_tree_words (record { untrimmed = untrimmed; output = output_words })
    (record { untrimmed = 1 + length vs * (d + p) + words.untrimmed; output = 1 + length vs * (e + m) + words.output }) untrimmed_same output_is in
    let whole : Trees = tree (structs d p (map w vs)) a.0 none in
    record {
      returned = (
        whole,
        record { children = a.0; children_is = a.1; few_words = t.few_words; few_pointers = t.few_pointers; few = t.few; small = t.small; whole = refl },
        list_rooms w h d p s vs a.0 a.1 t ok.even,
        own ∙ list_words w h c d p e m s vs a.0 whole words a.1 (kept.words a.0 a.1) (kept.pointers a.0 a.1) a.3 refl,
      );
      found = λ trees is.
          let there : Ok words ≡ Ok (tree_words c is.children) = ok.measured.found is.children is.children_is in
          let same : words ≡ tree_words c is.children = cc in
          ap (λ (x : TreeWords). Ok x)
          (own ∙ list_words w h c d p e m s vs is.children trees words is.children_is (kept.words is.children is.children_is) (kept.pointers is.children is.children_is) same is.whole);
      exact = λ kind errors. elim errors [
        | inl many ↦ absurd (not_too_many (length vs) d p kind t many)
        | inr others ↦ ok.measured.exact kind others.4
      ];
    }

-- it fails: by its size, or by one of its elements
too_wide : (d p : ℕ) → (2 ^ 16 ≤ d ⊎ 2 ^ 16 ≤ p) → d < 2 ^ 16 → p < 2 ^ 16 → ⊥
too_wide d p (inl many) a b = omega (arith, many, a)
too_wide d p (inr many) a b = omega (arith, many, b)

same_kind : (n d p : ℕ) (k l : ErrorKind) → TooManyStructs n d p k → TooManyStructs n d p l → k ≡ l
same_kind n d p k l (inl (a, x)) (inl (b, y)) = x ∙ sym y
same_kind n d p k l (inl (a, x)) (inr (inl m)) = absurd (too_wide d p a m.0 m.1)
same_kind n d p k l (inl (a, x)) (inr (inr m)) = absurd (too_wide d p a m.0 m.1)
same_kind n d p k l (inr (inl m)) (inl (b, y)) = absurd (too_wide d p b m.0 m.1)
same_kind n d p k l (inr (inl m)) (inr (inl q)) = m.3 ∙ sym q.3
same_kind n d p k l (inr (inl m)) (inr (inr q)) = absurd (omega (arith, m.2, q.2))
same_kind n d p k l (inr (inr m)) (inl (b, y)) = absurd (too_wide d p b m.0 m.1)
same_kind n d p k l (inr (inr m)) (inr (inl q)) = absurd (omega (arith, m.2, q.2))
same_kind n d p k l (inr (inr m)) (inr (inr q)) = m.4 ∙ sym q.4

-- at most 2 ^ 16 pointers are declared of it
pub declared_many : (n d p x y : ℕ) (k : ErrorKind) → x ≡ d → y ≡ min p (2 ^ 16) → TooManyStructs n x y k → TooManyStructs n d p k
declared_many n d p x y k x_is y_is (inl (inl many, is)) = inl (inl (omega (arith, many, x_is)), is)
declared_many n d p x y k x_is y_is (inl (inr many, is)) = inl (inr (omega (arith, many, y_is)), is)
declared_many n d p x y k x_is y_is (inr (inl m)) = inr (inl (omega (arith, m.0, x_is), omega (arith, m.1, y_is), m.2, m.3))
declared_many n d p x y k x_is y_is (inr (inr m)) =
    let y_there : y ≡ p = omega (arith, y_is, m.1) in
    let f : ℕ → ℕ → Type 0 = λ a b. (2 ^ 29 ≤ n * (a + b)) × (k ≡ AllocationTooLarge (min (n * (a + b)) (2 ^ 32 - 1))) in
    let there = subst (λ (a : ℕ). f a p) x_is (subst (λ (b : ℕ). f x b) y_there (m.3, m.4)) in
    inr (inr (omega (arith, m.0, x_is), omega (arith, m.1, y_is), m.2, there.0, there.1))

pub list_too_large : {V : Type 0} (w : V → List ℕ) (h : V → Trees → Type 0) (r : V → ErrorKind → Type 0) (c : Bool) (d p : ℕ) (vs : List V) (error : Error) → TooManyStructs (length vs) d p error.kind
    → MeasuresValue (λ t. IsStructListTree w h d p vs t) (λ k. StructListError h r d p vs k) c (Err error)
list_too_large w h r c d p vs error many = record {
  returned = inl many;
  found = λ trees is. absurd (not_too_many (length vs) d p error.kind (record { few_words = is.few_words; few_pointers = is.few_pointers; few = is.few; small = is.small }) many);
  exact = λ kind errors. elim errors [
    | inl others ↦ same_kind (length vs) d p error.kind kind many others
    | inr elements ↦ absurd (not_too_many (length vs) d p error.kind (record { few_words = elements.0; few_pointers = elements.1; few = elements.2; small = elements.3 }) many)
  ];
}

pub struct_list_error : {V : Type 0} (w : V → List ℕ) (h : V → Trees → Type 0) (r : V → ErrorKind → Type 0) (c : Bool) (d p : ℕ) (vs : List V) (returned : Result TreeWords Error) (error : Error)
    → AreDeclared (length vs) d p → returned ≡ Err error → MeasuresElements w h r c d vs returned → MeasuresValue (λ t. IsStructListTree w h d p vs t) (λ k. StructListError h r d p vs k) c (Err error)
struct_list_error w h r c d p vs returned error t was elements =
    let m = (subst (λ (x : Result TreeWords Error). MeasuresElements w h r c d vs x) was elements).measured in
    record {
      returned = inr (t.few_words, t.few_pointers, t.few, t.small, m.returned);
      found = λ trees is. let ok : Err error ≡ Ok (tree_words c is.children) = m.found is.children is.children_is in absurd (cc);
      exact = λ kind errors. elim errors [
        | inl many ↦ absurd (not_too_many (length vs) d p kind t many)
        | inr others ↦ m.exact kind others.4
      ];
    }

-- what its elements point to has few words
pub elements_few : {V : Type 0} (w : V → List ℕ) (h : V → Trees → Type 0) (r : V → ErrorKind → Type 0) (c : Bool) (d p n : ℕ) → ((v : V) (t : Trees) → h v t → IsSettled p t) → (vs : List V) (words : TreeWords)
    → MeasuresElements w h r c d vs (Ok words) → n ≡ length vs → n * (d + p) < 2 ^ 29 → words.untrimmed + words.output < 2 ^ 59
elements_few w h r c d p n s vs words elements same few =
    let one = measured_few (λ t. AreElements h vs t) c (length vs * p) words (elements_settled h p s vs) elements.measured.returned in
    let area : n * (d + p) ≡ length vs * (d + p) = ap (λ (k : ℕ). k * (d + p)) same in
    omega (arith, one.0, one.1, area, few)
