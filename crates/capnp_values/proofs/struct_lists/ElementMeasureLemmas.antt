-- Lists of structs: the words that are measured of what their elements point to.
use Rattle.std.proofs.Common.{◌≡◌, ℕ, ◌+◌, ◌*◌, ◌<◌, ◌≤◌, ◌^◌, Bool, List, [], ◌∷◌, length, map, drop, Result, Ok, Err, inl, inr, refl, sym, ◌∙◌, ap, subst, arith, get_or}
use Rattle.std.specs.Prelude.{All}
use Rattle.std.proofs.Math.Nat.{mul-le-mul_left}
use Rattle.std.proofs.lemmas.List.Elements.{All-nil, All-cons}
use Rattle.capnp_frame.specs.declared.error.Error.{Error}
use Rattle.capnp_frame.specs.declared.error.ErrorKind.{ErrorKind}
use Rattle.capnp_layout.specs.Prelude.{Trees, none, total_words, before, output}
use Rattle.capnp_layout.proofs.trees.TreePartsSizeAndPropertiesLemmas.{total-before}
use Rattle.capnp_wire.specs.declared.traits.TreeWords.{TreeWords}
use Rattle.capnp_wire.proofs.views.ValueAsPartTwoMeasuresLemmas.{same_tree_words}
use Rattle.capnp_values.specs.Measured.{tree_words, both_words, MeasuresValue}
use Rattle.capnp_values.specs.Fields.{IsSettled}
use Rattle.capnp_values.specs.StructLists.{AreElements, ElementsError, AreEven, MeasuresElements}
use Rattle.capnp_values.proofs.lists.ItemMeasureLemmas.{from_here, measured_few, no_item_left, onto, onto_none, onto_both, nothing_after}
use Rattle.capnp_values.proofs.struct_lists.ElementTreesOutputWordsLemmas.{rooms_before, total_front}

-- what is measured of a struct in front of others
abbrev MeasuresTrees : {V : Type 0} → (V → Trees → Type 0) → (V → ErrorKind → Type 0) → List V → Bool → Result TreeWords Error → Type 0
MeasuresTrees h r vs c res = MeasuresValue (λ t. AreElements h vs t) (λ k. ElementsError h r vs k) c res

both_front : (c : Bool) (fields rest children : Trees) (own words : TreeWords) → children ≡ before fields rest → own ≡ tree_words c fields → words ≡ tree_words c rest → both_words own words ≡ tree_words c children
both_front c fields rest children own words whole own_is words_is =
    same_tree_words (both_words own words) (tree_words c children)
    (omega (arith, ap (λ (w : TreeWords). w.untrimmed) own_is, ap (λ (w : TreeWords). w.untrimmed) words_is, ap total_words whole, total-before fields rest))
    (omega (arith, ap (λ (w : TreeWords). w.output) own_is, ap (λ (w : TreeWords). w.output) words_is, total_front c fields rest children whole))

fields_measured : {V : Type 0} (h : V → Trees → Type 0) (r : V → ErrorKind → Type 0) (c : Bool) (v : V) (vs : List V) (own words : TreeWords) → MeasuresValue (h v) (r v) c (Ok own)
    → MeasuresTrees h r vs c (Ok words) → MeasuresTrees h r (v ∷ vs) c (Ok (both_words own words))
fields_measured h r c v vs own words first m =
    let a = first.returned in
    let b = m.returned in
    record {
      returned = (
        before a.0 b.0,
        record { fields = a.0; rest = b.0; whole = refl; fields_is = a.1; others = b.1 },
        rooms_before a.0 b.0 a.2 b.2,
        both_front c a.0 b.0 (before a.0 b.0) own words refl a.3 b.3,
      );
      found = λ trees is.
          let own_there : Ok own ≡ Ok (tree_words c is.fields) = first.found is.fields is.fields_is in
          let own_is : own ≡ tree_words c is.fields = cc in
          let words_there : Ok words ≡ Ok (tree_words c is.rest) = m.found is.rest is.others in
          let words_is : words ≡ tree_words c is.rest = cc in
          ap (λ (w : TreeWords). Ok w) (both_front c is.fields is.rest trees own words is.whole own_is words_is);
      exact = λ kind errors. elim errors [
        | inl first_fails ↦ absurd (first.exact kind first_fails)
        | inr more ↦ m.exact kind more.2
      ];
    }

rest_error : {V : Type 0} (h : V → Trees → Type 0) (r : V → ErrorKind → Type 0) (c : Bool) (v : V) (vs : List V) (own : TreeWords) (error : Error) → MeasuresValue (h v) (r v) c (Ok own)
    → MeasuresTrees h r vs c (Err error) → MeasuresTrees h r (v ∷ vs) c (Err error)
rest_error h r c v vs own error first m = record {
  returned = inr (first.returned.0, first.returned.1, m.returned);
  found = λ trees is. let ok : Err error ≡ Ok (tree_words c is.rest) = m.found is.rest is.others in absurd (cc);
  exact = λ kind errors. elim errors [
    | inl first_fails ↦ absurd (first.exact kind first_fails)
    | inr more ↦ m.exact kind more.2
  ];
}

element_front : {V : Type 0} (h : V → Trees → Type 0) (r : V → ErrorKind → Type 0) (c : Bool) (v : V) (vs : List V) (own : TreeWords) (rest : Result TreeWords Error) → MeasuresValue (h v) (r v) c (Ok own)
    → MeasuresTrees h r vs c rest → MeasuresTrees h r (v ∷ vs) c (onto own rest)
element_front h r c v vs own (Ok words) first m = fields_measured h r c v vs own words first m
element_front h r c v vs own (Err error) first m = rest_error h r c v vs own error first m

first_error : {V : Type 0} (h : V → Trees → Type 0) (r : V → ErrorKind → Type 0) (c : Bool) (v : V) (vs : List V) (error : Error) → MeasuresValue (h v) (r v) c (Err error)
    → MeasuresTrees h r (v ∷ vs) c (Err error)
first_error h r c v vs error first = record {
  returned = inl first.returned;
  found = λ trees is. let ok : Err error ≡ Ok (tree_words c is.fields) = first.found is.fields is.fields_is in absurd (cc);
  exact = λ kind errors. elim errors [
    | inl own ↦ first.exact kind own
    | inr more ↦ (let ok : Err error ≡ Ok (tree_words c more.0) = first.found more.0 more.1 in absurd (cc))
  ];
}

-- How far the measuring has come: once the structs that are left are measured, all are.
pub record ElementsMeasured {V : Type 0} (w : V → List ℕ) (h : V → Trees → Type 0) (r : V → ErrorKind → Type 0) (c : Bool) (d p : ℕ) (items : List V) (i : ℕ) (words : TreeWords) : Type 0 where
  pub untrimmed_few : words.untrimmed ≤ i * p * 2 ^ 29
  pub output_few : words.output ≤ i * p * 2 ^ 29
  pub even : AreEven d (map w (drop i items)) → AreEven d (map w items)
  pub ends : (rest : Result TreeWords Error) → MeasuresTrees h r (drop i items) c rest → MeasuresTrees h r items c (onto words rest)

pub structs_measuring_begins : {V : Type 0} (w : V → List ℕ) (h : V → Trees → Type 0) (r : V → ErrorKind → Type 0) (c : Bool) (d p : ℕ) (items : List V)
    → ElementsMeasured w h r c d p items 0 (record { untrimmed = 0; output = 0 })
structs_measuring_begins w h r c d p items = record {
  untrimmed_few = omega arith;
  output_few = omega arith;
  even = λ rest. rest;
  ends = λ rest m. subst (λ (x : Result TreeWords Error). MeasuresTrees h r items c x) (sym (onto_none rest)) m;
}

-- the sum of the words has room for one more struct
pub sum_few : {V : Type 0} (w : V → List ℕ) (h : V → Trees → Type 0) (r : V → ErrorKind → Type 0) (c : Bool) (d p : ℕ) → ((v : V) (t : Trees) → h v t → IsSettled p t) → (items : List V) (i : ℕ)
    (words own : TreeWords) (v : V) → i < length items → length items * (d + p) < 2 ^ 29 → p < 2 ^ 16 → MeasuresValue (h v) (r v) c (Ok own) → ElementsMeasured w h r c d p items i words
    → (words.untrimmed + own.untrimmed < 2 ^ 64) × (words.output + own.output < 2 ^ 64)
sum_few w h r c d p s items i words own v within few narrow m so_far =
    let one = measured_few (h v) c p own (s v) m.returned in
    let area : p * i ≤ p * length items = mul-le-mul_left p (omega (arith, within)) in
    (omega (arith, so_far.untrimmed_few, one.0, area, few, narrow), omega (arith, so_far.output_few, one.1, area, few, narrow))

pub structs_measuring_goes_on : {V : Type 0} (w : V → List ℕ) (h : V → Trees → Type 0) (r : V → ErrorKind → Type 0) (c : Bool) (d p : ℕ) → ((v : V) (t : Trees) → h v t → IsSettled p t) → (items : List V)
    (i : ℕ) (words own : TreeWords) (v : V) → i < length items → v ≡ get_or items i v → MeasuresValue (h v) (r v) c (Ok own) → length (w v) ≡ d → All (λ k. k < 2 ^ 64) (w v)
    → ElementsMeasured w h r c d p items i words → ElementsMeasured w h r c d p items (i + 1) (both_words words own)
structs_measuring_goes_on {V = V} w h r c d p s items i words own v within is m long fit so_far =
    let one = measured_few (h v) c p own (s v) m.returned in
    let more : (i + 1) * p ≡ i * p + p = omega arith in
    let here : drop i items ≡ v ∷ drop (i + 1) items = from_here items i v within is in
    record {
      untrimmed_few = omega (arith, so_far.untrimmed_few, one.0, more);
      output_few = omega (arith, so_far.output_few, one.1, more);
      even = λ rest. so_far.even (subst (λ (l : List V). AreEven d (map w l)) (sym here) (All-cons (λ element. (length element ≡ d) × All (λ k. k < 2 ^ 64) element) (w v) (map w (drop (i + 1) items)) (long, fit) rest));
      ends = λ rest after.
          let there = subst (λ (l : List V). MeasuresTrees h r l c (onto own rest)) (sym here) (element_front h r c v (drop (i + 1) items) own rest m after) in
          subst (λ (x : Result TreeWords Error). MeasuresTrees h r items c x) (onto_both words own rest) (so_far.ends (onto own rest) there);
    }

pub structs_measuring_fails : {V : Type 0} (w : V → List ℕ) (h : V → Trees → Type 0) (r : V → ErrorKind → Type 0) (c : Bool) (d p : ℕ) (items : List V) (i : ℕ) (words : TreeWords) (v : V) (error : Error)
    → i < length items → v ≡ get_or items i v → MeasuresValue (h v) (r v) c (Err error) → ElementsMeasured w h r c d p items i words → MeasuresElements w h r c d items (Err error)
structs_measuring_fails {V = V} w h r c d p items i words v error within is m so_far = record {
  measured = so_far.ends (Err error) (subst (λ (l : List V). MeasuresTrees h r l c (Err error)) (sym (from_here items i v within is)) (first_error h r c v (drop (i + 1) items) error m));
  even = tt;
}

none_measured : {V : Type 0} (h : V → Trees → Type 0) (r : V → ErrorKind → Type 0) (c : Bool) → MeasuresTrees h r [] c (Ok (record { untrimmed = 0; output = 0 }))
none_measured h r c = record { returned = (none, refl, tt, nothing_after c); found = λ trees is. ap (λ (w : TreeWords). Ok w) (nothing_after c ∙ ap (tree_words c) (sym is)); exact = λ kind errors. absurd errors }

pub structs_measuring_ends : {V : Type 0} (w : V → List ℕ) (h : V → Trees → Type 0) (r : V → ErrorKind → Type 0) (c : Bool) (d p : ℕ) (items : List V) (i : ℕ) (words : TreeWords) → length items ≤ i
    → ElementsMeasured w h r c d p items i words → MeasuresElements w h r c d items (Ok words)
structs_measuring_ends {V = V} w h r c d p items i words past so_far =
    let empty = sym (no_item_left items i past) in
    record {
      measured = subst (λ (x : TreeWords). MeasuresTrees h r items c (Ok x)) (same_tree_words (both_words words (record { untrimmed = 0; output = 0 })) words (omega arith) (omega arith))
          (so_far.ends (Ok (record { untrimmed = 0; output = 0 })) (subst (λ (l : List V). MeasuresTrees h r l c (Ok (record { untrimmed = 0; output = 0 }))) empty (none_measured h r c)));
      even = so_far.even (subst (λ (l : List V). AreEven d (map w l)) empty (All-nil (λ element. (length element ≡ d) × All (λ k. k < 2 ^ 64) element)));
    }
