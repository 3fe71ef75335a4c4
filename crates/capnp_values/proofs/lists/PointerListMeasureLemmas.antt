-- Lists of pointers as values: their words, what is measured of them, and why measuring fails; then what is
-- written.
use Rattle.std.proofs.Common.{◌≡◌, ℕ, ◌+◌, ◌<◌, ◌≤◌, ◌^◌, Bool, true, false, List, length, Result, Ok, Err, inl, inr, refl, sym, ◌∙◌, ap, subst, arith}
use Rattle.std.specs.Prelude.{min, ◌-◌}
use Rattle.capnp_frame.specs.declared.error.Error.{Error}
use Rattle.capnp_frame.specs.declared.error.ErrorKind.{ErrorKind}
use Rattle.capnp_frame.specs.declared.error.ErrorKind.TheVariants.{AllocationTooLarge}
use Rattle.capnp_layout.specs.Prelude.{pointers, Trees, none, tree, count, total_words, list_pointer, run, output, AllHaveRoom, fill}
use Rattle.capnp_wire.specs.Prelude.{IsCopied, HasRoomAt}
use Rattle.capnp_layout.proofs.trees.TrimIdempotenceAndSizeLemmas.{count-trim}
use Rattle.capnp_wire.proofs.layouts.CopyPlanFillsLayoutLemmas.{room_output}
use Rattle.capnp_wire.proofs.views.ValueAsPartTwoMeasuresLemmas.{same_tree_words}
use Rattle.capnp_values.specs.Measured.{tree_words, MeasuresValue}
use Rattle.capnp_values.specs.Lists.{AreItems, HasRoomForItems, IsPointerListTree, PointerListError}
use Rattle.capnp_wire.specs.declared.traits.TreeWords.{TreeWords}
use Rattle.capnp_values.proofs.lists.ItemMeasureLemmas.{items_settled, MeasuresItems}
use Rattle.capnp_values.proofs.layouts.ObjectFillLemmas.{list_filled}

list_output : (c : Bool) (children : Trees) → output c (tree pointers children none) ≡ tree pointers (output c children) none
list_output true children = refl
list_output false children = refl

pub count_output : (c : Bool) (children : Trees) → count children ≡ count (output c children)
count_output true children = sym (count-trim children)
count_output false children = refl

pub pointer_list_total : (c : Bool) (children : Trees) → total_words (output c (tree pointers children none)) ≡ count children + total_words (output c children)
pointer_list_total c children =
    let whole : total_words (output c (tree pointers children none)) ≡ count (output c children) + total_words (output c children) + 0 = ap total_words (list_output c children) in
    omega (arith, whole, count_output c children)

-- the words of the list of these values, which has room
pub values_total : {V : Type 0} (h : V → Trees → Type 0) (vs : List V) (c : Bool) (t : Trees) (is : IsPointerListTree h vs t) → total_words (output c t) ≡ length vs + total_words (output c is.children)
values_total h vs c t is =
    let whole : total_words (output c t) ≡ total_words (output c (tree pointers is.children none)) = ap (λ (a : Trees). total_words (output c a)) is.whole in
    omega (arith, whole, pointer_list_total c is.children, (items_settled h vs is.children is.children_is).many)

pub values_rooms : {V : Type 0} (h : V → Trees → Type 0) (vs : List V) (t : Trees) → IsPointerListTree h vs t → AllHaveRoom t
values_rooms h vs t is =
    let s = items_settled h vs is.children is.children_is in
    subst AllHaveRoom (sym is.whole) (omega (arith, s.many, is.few), s.rooms, tt)

pub values_begin : {V : Type 0} (h : V → Trees → Type 0) (vs : List V) (c : Bool) (next room : ℕ) → HasRoomAt (λ t. IsPointerListTree h vs t) c next room
    → HasRoomForItems (λ t. AreItems h vs t) c (next + length vs) room
values_begin h vs c next room w =
    record { trees = w.tree_is.children; trees_are = w.tree_is.children_is; fits = omega (arith, w.fits, values_total h vs c w.trees w.tree_is) }

-- what is measured of the list of these values
list_words : (c : Bool) (n : ℕ) (children trees : Trees) (words : TreeWords) → trees ≡ tree pointers children none → count children ≡ n → words ≡ tree_words c children
    → record { untrimmed = n + words.untrimmed; output = n + words.output } ≡ tree_words c trees
list_words c n children trees words whole many is =
    same_tree_words (record { untrimmed = n + words.untrimmed; output = n + words.output }) (tree_words c (tree pointers children none))
    (omega (arith, many, ap (λ (w : TreeWords). w.untrimmed) is)) (omega (arith, many, ap (λ (w : TreeWords). w.output) is, pointer_list_total c children))
    ∙ sym (ap (tree_words c) whole)

pub pointer_list_measured : {V : Type 0} (h : V → Trees → Type 0) (r : V → ErrorKind → Type 0) (vs : List V) (c : Bool) (returned : Result TreeWords Error) (words : TreeWords) → length vs < 2 ^ 29
    → returned ≡ Ok words → MeasuresItems h r vs c returned
    → MeasuresValue (λ t. IsPointerListTree h vs t) (λ k. PointerListError h r vs k) c (Ok (record { untrimmed = length vs + words.untrimmed; output = length vs + words.output }))
pointer_list_measured h r vs c returned words few was m =
    let m_ok : MeasuresItems h r vs c (Ok words) = subst (λ (x : Result TreeWords Error). MeasuresItems h r vs c x) was m in
    let a = m_ok.returned in
    let s = items_settled h vs a.0 a.1 in
    record {
      returned = (
        tree pointers a.0 none,
        record { children = a.0; children_is = a.1; few = few; whole = refl },
        (omega (arith, s.many, few), s.rooms, tt),
        list_words c (length vs) a.0 (tree pointers a.0 none) words refl s.many a.3,
      );
      found = λ trees is.
          let there : Ok words ≡ Ok (tree_words c is.children) = m_ok.found is.children is.children_is in
          let same : words ≡ tree_words c is.children = cc in
          ap (λ (w : TreeWords). Ok w) (list_words c (length vs) is.children trees words is.whole (items_settled h vs is.children is.children_is).many same);
      exact = λ kind errors. elim errors [
        | inl many ↦ absurd (omega (arith, few, many.0))
        | inr others ↦ m_ok.exact kind others.1
      ];
    }

-- it fails: by its length, or by one of the values
pub list_too_long : {V : Type 0} (h : V → Trees → Type 0) (r : V → ErrorKind → Type 0) (vs : List V) (c : Bool) (error : Error) → 2 ^ 29 ≤ length vs
    → error.kind ≡ AllocationTooLarge (min (length vs) (2 ^ 32 - 1)) → MeasuresValue (λ t. IsPointerListTree h vs t) (λ k. PointerListError h r vs k) c (Err error)
list_too_long h r vs c error many is = record {
  returned = inl (many, is);
  found = λ trees there. absurd (omega (arith, many, there.few));
  exact = λ kind errors. elim errors [
    | inl others ↦ (is ∙ sym others.1)
    | inr others ↦ absurd (omega (arith, many, others.0))
  ];
}

pub pointer_list_error : {V : Type 0} (h : V → Trees → Type 0) (r : V → ErrorKind → Type 0) (vs : List V) (c : Bool) (returned : Result TreeWords Error) (error : Error) → length vs < 2 ^ 29
    → returned ≡ Err error → MeasuresItems h r vs c returned → MeasuresValue (λ t. IsPointerListTree h vs t) (λ k. PointerListError h r vs k) c (Err error)
pointer_list_error h r vs c returned error few was m =
    let m_err : MeasuresItems h r vs c (Err error) = subst (λ (x : Result TreeWords Error). MeasuresItems h r vs c x) was m in
    record {
      returned = inr (few, m_err.returned);
      found = λ trees is. let ok : Err error ≡ Ok (tree_words c is.children) = m_err.found is.children is.children_is in absurd (cc);
      exact = λ kind there. elim there [
        | inl many ↦ absurd (omega (arith, few, many.0))
        | inr others ↦ m_err.exact kind others.1
      ];
    }

-- what is written of it
pub pointer_list_copied : (c : Bool) (children trees : Trees) (gap next n free tag : ℕ) (old new : List ℕ) → trees ≡ tree pointers children none → n ≡ count children → AllHaveRoom trees → tag ≡ list_pointer gap 6 n
    → free ≤ length old → new ≡ fill (run next n) (next + n) (output c children) old → free ≡ next + n + total_words (output c children)
    → IsCopied (output c trees) gap next old new (record { pointer = tag; next = free })
pointer_list_copied c children trees gap next n free tag old new whole n_is rooms tag_is fits new_is free_is =
    let x : Trees = output c children in
    let form_is : output c trees ≡ tree pointers (output c children) none = ap (output c) whole ∙ list_output c children in
    let all : AllHaveRoom (tree pointers (output c children) none) = subst AllHaveRoom form_is (room_output c trees rooms) in
    let many : n ≡ count (output c children) = n_is ∙ count_output c children in
    subst (λ (t : Trees). IsCopied t gap next old new (record { pointer = tag; next = free })) (sym form_is) (record {
      words_are = new_is ∙ ap (λ (k : ℕ). fill (run next k) (next + k) x old) many ∙ list_filled next x old all.0 all.1 (omega (arith, fits, free_is, many));
      pointer_is = tag_is ∙ ap (λ (k : ℕ). list_pointer gap 6 k) many;
      next_is = omega (arith, free_is, many);
    })
