-- A person and a contact as values have one tree each, which is given.
use Rattle.std.proofs.Common.{◌≡◌, ℕ, List, [], ◌∷◌, ◌++◌, map, Result, Ok, Err, IfOk, ◌∙◌, ap, subst}
use Rattle.capnp_frame.specs.declared.error.Error.{Error}
use Rattle.capnp_wire.specs.Prelude.{Form, struct, structs, numbers, Trees, none, tree, before, IsTextTree}
use Rattle.capnp_values.specs.Fields.{IsValueInFront}
use Rattle.capnp_values.specs.Structs.{IsStructTree}
use Rattle.capnp_values.specs.StructLists.{AreElements, IsStructListTree}
use Rattle.capnp.specs.Prelude.{HasRootTree}
use Rattle.capnp_uses.specs.Roots.{HasRootOf}
use Rattle.capnp_uses.specs.People.{text_tree, texts, person_tree, phones_tree, contact_tree}

-- a tree in front of others
with_rest : (form f : Form) (children x rest : Trees) → tree form children none ≡ tree f x none → tree form children rest ≡ tree f x rest
with_rest form f children x rest is = cc

text_front : (bytes : List ℕ) (hs : Trees → Type 0) (trees : Trees) → (is : IsValueInFront (λ t. IsTextTree bytes t) hs trees) → trees ≡ text_tree bytes is.rest
text_front bytes hs trees is = is.whole ∙ with_rest is.form (numbers 2 (bytes ++ 0 ∷ [])) is.children none is.rest is.part.tree_is.1

pub whole_address : (address city : List ℕ) (trees : Trees) → IsStructTree address 1 (λ u. IsValueInFront (λ v. IsTextTree city v) (λ v. v ≡ none) u) trees
    → trees ≡ tree (struct address) (text_tree city none) none
whole_address address city trees is =
    let text = is.children_is in
    is.whole ∙ ap (λ (t : Trees). tree (struct address) t none) (text_front city (λ v. v ≡ none) is.children text ∙ ap (λ (t : Trees). text_tree city t) text.others)

whole_person : (words name address city : List ℕ) (trees : Trees)
    → IsStructTree words 2 (λ t. IsValueInFront (λ x. IsTextTree name x) (λ a. IsValueInFront (λ x. IsStructTree address 1 (λ u. IsValueInFront (λ v. IsTextTree city v) (λ v. v ≡ none) u) x) (λ x. x ≡ none) a) t) trees
    → trees ≡ tree (struct words) (text_tree name (tree (struct address) (text_tree city none) none)) none
whole_person words name address city trees is =
    let first = is.children_is in
    let second = first.others in
    let home : tree second.form second.children none ≡ tree (struct address) (text_tree city none) none =
    whole_address address city (tree second.form second.children none) second.part.tree_is in
    let after : first.rest ≡ tree (struct address) (text_tree city none) none =
    second.whole ∙ ap (λ (t : Trees). tree second.form second.children t) second.others ∙ home in
    is.whole
    ∙ ap (λ (t : Trees). tree (struct words) t none)
    (text_front name (λ a. IsValueInFront (λ x. IsStructTree address 1 (λ u. IsValueInFront (λ v. IsTextTree city v) (λ v. v ≡ none) u) x) (λ x. x ≡ none) a) is.children first
    ∙ ap (λ (t : Trees). text_tree name t) after)

pub person_is : (words : List ℕ) (id : ℕ) (n address c name city : List ℕ) (trees : Trees) → words ≡ id ∷ [] → n ≡ name → address ≡ [] → c ≡ city
    → IsStructTree words 2 (λ t. IsValueInFront (λ x. IsTextTree n x) (λ a. IsValueInFront (λ x. IsStructTree address 1 (λ u. IsValueInFront (λ v. IsTextTree c v) (λ v. v ≡ none) u) x) (λ x. x ≡ none) a) t) trees
    → trees ≡ person_tree id name city
person_is words id n address c name city trees words_are n_is address_is c_is is =
    whole_person words n address c trees is
    ∙ ap (λ (l : List ℕ). tree (struct l) (text_tree n (tree (struct address) (text_tree c none) none)) none) words_are
    ∙ ap (λ (l : List ℕ). tree (struct (id ∷ [])) (text_tree n (tree (struct l) (text_tree c none) none)) none) address_is
    ∙ ap (λ (l : List ℕ). person_tree id l c) n_is
    ∙ ap (λ (l : List ℕ). person_tree id name l) c_is

-- the phones of a list
pub texts_are : {V : Type 0} (f : V → List ℕ) (vs : List V) (children : Trees) → AreElements (λ v t. IsValueInFront (λ x. IsTextTree (f v) x) (λ x. x ≡ none) t) vs children → children ≡ texts (map f vs)
texts_are f [] children is = is
texts_are f (v ∷ vs) children is =
    let fields : is.fields ≡ text_tree (f v) none = text_front (f v) (λ x. x ≡ none) is.fields is.fields_is ∙ ap (λ (t : Trees). text_tree (f v) t) is.fields_is.others in
    is.whole ∙ ap (λ (t : Trees). before t is.rest) fields ∙ ap (λ (t : Trees). text_tree (f v) t) (texts_are f vs is.rest is.others)

pub whole_list : {V : Type 0} (w f : V → List ℕ) (vs : List V) (trees : Trees) → IsStructListTree w (λ v c. IsValueInFront (λ y. IsTextTree (f v) y) (λ y. y ≡ none) c) 1 1 vs trees
    → trees ≡ phones_tree (map w vs) (map f vs)
whole_list w f vs trees is = is.whole ∙ ap (λ (t : Trees). tree (structs 1 1 (map w vs)) t none) (texts_are f vs is.children is.children_is)

whole_contact : {V : Type 0} (w f : V → List ℕ) (vs : List V) (words name mail : List ℕ) (trees : Trees)
    → IsStructTree words 3 (λ t. IsValueInFront (λ x. IsTextTree name x) (λ a. IsValueInFront (λ x. IsTextTree mail x)
    (λ b. IsValueInFront (λ x. IsStructListTree w (λ v c. IsValueInFront (λ y. IsTextTree (f v) y) (λ y. y ≡ none) c) 1 1 vs x) (λ x. x ≡ none) b) a) t) trees
    → trees ≡ tree (struct words) (text_tree name (text_tree mail (phones_tree (map w vs) (map f vs)))) none
whole_contact w f vs words name mail trees is =
    let first = is.children_is in
    let second = first.others in
    let third = second.others in
    let last : second.rest ≡ phones_tree (map w vs) (map f vs) =
    third.whole ∙ ap (λ (t : Trees). tree third.form third.children t) third.others
    ∙ whole_list w f vs (tree third.form third.children none) third.part.tree_is in
    let after : first.rest ≡ text_tree mail (phones_tree (map w vs) (map f vs)) =
    text_front mail (λ b. IsValueInFront (λ x. IsStructListTree w (λ v c. IsValueInFront (λ y. IsTextTree (f v) y) (λ y. y ≡ none) c) 1 1 vs x) (λ x. x ≡ none) b) first.rest second
    ∙ ap (λ (t : Trees). text_tree mail t) last in
    is.whole
    ∙ ap (λ (t : Trees). tree (struct words) t none)
    (first.whole ∙ with_rest first.form (numbers 2 (name ++ 0 ∷ [])) first.children none first.rest first.part.tree_is.1 ∙ ap (λ (t : Trees). text_tree name t) after)

pub contact_is : {V : Type 0} (w f : V → List ℕ) (vs phones : List V) (words : List ℕ) (id : ℕ) (n m name mail : List ℕ) (trees : Trees) → words ≡ id ∷ [] → n ≡ name → m ≡ mail → vs ≡ phones
    → IsStructTree words 3 (λ t. IsValueInFront (λ x. IsTextTree n x) (λ a. IsValueInFront (λ x. IsTextTree m x)
    (λ b. IsValueInFront (λ x. IsStructListTree w (λ v c. IsValueInFront (λ y. IsTextTree (f v) y) (λ y. y ≡ none) c) 1 1 vs x) (λ x. x ≡ none) b) a) t) trees
    → trees ≡ contact_tree id name mail (map w phones) (map f phones)
contact_is {V = V} w f vs phones words id n m name mail trees words_are n_is m_is vs_are is =
    whole_contact w f vs words n m trees is
    ∙ ap (λ (l : List ℕ). tree (struct l) (text_tree n (text_tree m (phones_tree (map w vs) (map f vs)))) none) words_are
    ∙ ap (λ (l : List ℕ). contact_tree id l m (map w vs) (map f vs)) n_is
    ∙ ap (λ (l : List ℕ). contact_tree id name l (map w vs) (map f vs)) m_is
    ∙ ap (λ (l : List V). contact_tree id name mail (map w l) (map f l)) vs_are

-- the root that is read is the one tree of a value
pub one_root : {X : Type 0} (result : Result X Error) (segments : X → List (List ℕ)) (h : Trees → Type 0) (tree_there : Trees) → ((trees : Trees) → h trees → trees ≡ tree_there)
    → IfOk result (λ x. HasRootOf h (segments x)) → IfOk result (λ x. HasRootTree (segments x) tree_there)
one_root (Ok x) segments h tree_there same found = subst (λ (t : Trees). HasRootTree (segments x) t) (same found.0 found.1) found.2
one_root (Err error) segments h tree_there same found = tt
