-- Lists of structs as values: what is written of them.
use Rattle.std.proofs.Common.{◌≡◌, ℕ, ◌+◌, ◌*◌, ◌≤◌, Bool, List, [], ◌∷◌, length, map, take, sym, ◌∙◌, ap, subst, arith}
use Rattle.std.proofs.lemmas.List.{length-map}
use Rattle.capnp_layout.specs.Prelude.{structs, Trees, none, tree, count, total_words, list_pointer, struct_pointer, output, AllHaveRoom, put, put_data_sections, fill, section_slots}
use Rattle.capnp_wire.specs.Prelude.{IsCopied}
use Rattle.capnp_layout.proofs.layouts.LayoutSizeLemmas.{elements_even}
use Rattle.capnp_layout.proofs.layouts.PutWordsCombinedLemmas.{length-put}
use Rattle.capnp_wire.proofs.layouts.CopyPlanFillsLayoutLemmas.{room_output}
use Rattle.capnp_values.specs.Fields.{IsSettled}
use Rattle.capnp_values.specs.StructLists.{AreElements, IsStructListTree, element_data, element_pointers, output_children, AreEven, fill_elements}
use Rattle.capnp_values.proofs.layouts.ObjectFillLemmas.{structs_filled}
use Rattle.capnp_values.proofs.layouts.ElementwiseFillSameBlockLemmas.{elements_filled}
use Rattle.capnp_values.proofs.struct_lists.ElementTreesOutputWordsLemmas.{elements_settled, structs_output, total_shown}
use Rattle.capnp_values.specs.StructListPlaces.{AreDeclared, ListPlace}
use Rattle.capnp_values.proofs.struct_lists.StructListMeasureLemmas.{size_declared, struct_list_total, list_rooms}

-- what can be written of it
pub list_even : {V : Type 0} (w : V → List ℕ) (h : V → Trees → Type 0) (d p : ℕ) (vs : List V) (trees : Trees) → IsStructListTree w h d p vs trees → AllHaveRoom trees → AreEven d (map w vs)
list_even w h d p vs trees is rooms = (subst AllHaveRoom is.whole rooms).0.5

pub list_declared : {V : Type 0} (w : V → List ℕ) (h : V → Trees → Type 0) (d p : ℕ) (vs : List V) (trees : Trees) → IsStructListTree w h d p vs trees → AreDeclared (length vs) d p
list_declared w h d p vs trees is = record { few_words = is.few_words; few_pointers = is.few_pointers; few = is.few; small = is.small }

pub structs_rooms : {V : Type 0} (w : V → List ℕ) (h : V → Trees → Type 0) (d p : ℕ) → ((v : V) (t : Trees) → h v t → IsSettled p t) → (vs : List V) (trees : Trees)
    → IsStructListTree w h d p vs trees → AreEven d (map w vs) → AllHaveRoom trees
structs_rooms w h d p s vs trees is even = subst AllHaveRoom (sym is.whole) (list_rooms w h d p s vs is.children is.children_is (list_declared w h d p vs trees is) even)

pub structs_many : {V : Type 0} (w : V → List ℕ) (h : V → Trees → Type 0) (p : ℕ) → ((v : V) (t : Trees) → h v t → IsSettled p t) → (vs : List V) (children : Trees) → AreElements h vs children
    → count children ≡ length (map w vs) * p
structs_many w h p s vs children is = (elements_settled h p s vs children is).many ∙ ap (λ (n : ℕ). n * p) (sym (length-map vs w))

-- its room in a block
pub list_place : {V : Type 0} (w : V → List ℕ) (h : V → Trees → Type 0) (c : Bool) (d p e m : ℕ) → ((v : V) (t : Trees) → h v t → IsSettled p t) → (vs : List V) (next room : ℕ) (trees : Trees)
    → IsStructListTree w h d p vs trees → AllHaveRoom trees → next + total_words (output c trees) ≤ room → ((children : Trees) → AreElements h vs children → e ≡ element_data c d (map w vs))
    → ((children : Trees) → AreElements h vs children → m ≡ element_pointers c p (map w vs) children) → ListPlace w h c d p e m vs next room
list_place w h c d p e m s vs next room trees is rooms fits data_is pointers_are =
    let even = list_even w h d p vs trees is rooms in
    let t = list_declared w h d p vs trees is in
    let e_is = data_is is.children is.children_is in
    let m_is = pointers_are is.children is.children_is in
    let settled = elements_settled h p s vs is.children is.children_is in
    let same : length (map w vs) ≡ length vs = length-map vs w in
    let many : count is.children ≡ length (map w vs) * p = settled.many ∙ ap (λ (n : ℕ). n * p) (sym same) in
    let shown_is : total_words (output_children c m p (map w vs) is.children) ≡ total_words (output c is.children) =
    ap (λ (k : ℕ). total_words (output_children c k p (map w vs) is.children)) m_is ∙ total_shown c p (map w vs) is.children settled.rooms many in
    let total : total_words (output c trees) ≡ 1 + length vs * (e + m) + total_words (output c is.children) =
    ap (λ (x : Trees). total_words (output c x)) is.whole ∙ struct_list_total w h c d p e m s vs is.children is.children_is e_is m_is in
    let size = size_declared c (length vs) d p e m (map w vs) is.children t even e_is m_is in
    record {
      declared_is = t;
      size = size;
      begin_within = omega (arith, fits, total);
      elements = record {
        children = is.children;
        children_is = is.children_is;
        few_words = omega (arith, size.words_within, t.few_words);
        few_pointers = t.few_pointers;
        data_fits = size.words_within;
        pointers_are = m_is;
        fits = omega (arith, fits, total, shown_is);
      };
    }

-- what is written of it
pub struct_list_copied : (c : Bool) (d p : ℕ) (elements : List (List ℕ)) (children trees : Trees) (gap next n e m free tag : ℕ) (old new : List ℕ) → trees ≡ tree (structs d p elements) children none → AreEven d elements
    → count children ≡ length elements * p → n ≡ length elements → e ≡ element_data c d elements → m ≡ element_pointers c p elements children → AllHaveRoom trees → tag ≡ list_pointer gap 7 (n * (e + m))
    → free ≤ length old
    → new ≡ fill_elements m (next + 1) (map (take e) elements) (next + 1 + n * (e + m)) (output_children c m p elements children) (put next (struct_pointer n e m ∷ []) old)
    → free ≡ next + 1 + n * (e + m) + total_words (output_children c m p elements children) → IsCopied (output c trees) gap next old new (record { pointer = tag; next = free })
struct_list_copied c d p elements children trees gap next n e m free tag old new whole even many n_is e_is m_is rooms tag_is fits new_is free_is =
    let kept : ℕ = element_data c d elements in
    let most : ℕ = element_pointers c p elements children in
    let cut : List (List ℕ) = map (take (element_data c d elements)) elements in
    let x : Trees = output_children c (element_pointers c p elements children) p elements children in
    let form_is : output c trees ≡ tree (structs (element_data c d elements) (element_pointers c p elements children) (map (take (element_data c d elements)) elements)) (output_children c (element_pointers c p elements children) p elements children) none =
    ap (output c) whole ∙ structs_output c d p elements children even many in
    let all : AllHaveRoom (tree (structs (element_data c d elements) (element_pointers c p elements children) (map (take (element_data c d elements)) elements)) (output_children c (element_pointers c p elements children) p elements children) none) =
    subst AllHaveRoom form_is (room_output c trees rooms) in
    let long : n ≡ length (map (take (element_data c d elements)) elements) = n_is ∙ sym (length-map elements (take (element_data c d elements))) in
    let end_is : free
    ≡ next + 1 + length (map (take (element_data c d elements)) elements) * (element_data c d elements + element_pointers c p elements children) + total_words (output_children c (element_pointers c p elements children) p elements children) =
    free_is ∙ ap (λ (k : ℕ). next + 1 + k * (e + m) + total_words (output_children c m p elements children)) long
    ∙ ap (λ (a : ℕ). next + 1 + length (map (take (element_data c d elements)) elements) * (a + m) + total_words (output_children c m p elements children)) e_is
    ∙ ap (λ (b : ℕ). next + 1 + length (map (take (element_data c d elements)) elements) * (element_data c d elements + b) + total_words (output_children c b p elements children)) m_is in
    let on : (k : ℕ) → next + 1 + k ≡ next + (1 + k) = λ k. omega arith in
    let there : ℕ → ℕ → ℕ → Trees → List ℕ = λ k a b t. fill_elements b (next + 1) (map (take a) elements) (next + 1 + k * (a + b)) t (put next (struct_pointer k a b ∷ []) old) in
    let tagged : List ℕ = put next (struct_pointer (length (map (take (element_data c d elements)) elements)) (element_data c d elements) (element_pointers c p elements children) ∷ []) old in
    let tagged_long : length (put next (struct_pointer (length (map (take (element_data c d elements)) elements)) (element_data c d elements) (element_pointers c p elements children) ∷ []) old) ≡ length old =
    length-put next (struct_pointer (length (map (take (element_data c d elements)) elements)) (element_data c d elements) (element_pointers c p elements children) ∷ []) old (omega (arith, end_is, fits)) in
    let filled = elements_filled kept most (next + 1) cut (next + 1 + length cut * (kept + most)) x tagged (elements_even kept cut all.0.5) all.0.4 all.1 (omega arith) (omega (arith, tagged_long, end_is, fits)) in
    let tag_of : ℕ → ℕ → ℕ → ℕ = λ k a b. list_pointer gap 7 (k * (a + b)) in
    subst (λ (t : Trees). IsCopied t gap next old new (record { pointer = tag; next = free })) (sym form_is) (record {
      words_are = new_is
          ∙ ap (λ (k : ℕ). there k e m (output_children c m p elements children)) long
          ∙ ap (λ (a : ℕ). there (length cut) a m (output_children c m p elements children)) e_is
          ∙ ap (λ (b : ℕ). there (length cut) kept b (output_children c b p elements children)) m_is
          ∙ filled
          ∙ ap (λ (k : ℕ). fill (section_slots (next + 1) kept most (length cut)) k x (put_data_sections (next + 1) most cut (put next (struct_pointer (length cut) kept most ∷ []) old))) (on (length cut * (kept + most)))
          ∙ structs_filled next kept most cut x old all.0 all.1 (omega (arith, end_is, fits));
      pointer_is = tag_is ∙ ap (λ (k : ℕ). tag_of k e m) long ∙ ap (λ (a : ℕ). tag_of (length cut) a m) e_is ∙ ap (λ (b : ℕ). tag_of (length cut) kept b) m_is;
      next_is = omega (arith, end_is);
    })
