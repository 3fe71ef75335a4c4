-- What is measured of consecutive values of one type.
use Rattle.std.proofs.Common.{◌≡◌, ℕ, zero, suc, ◌+◌, ◌*◌, ◌<◌, ◌≤◌, ◌^◌, Bool, true, false, List, [], ◌∷◌, length, drop, Result, Ok, Err, inl, inr, refl, sym, ◌∙◌, ap, subst, arith, get_or}
use Rattle.std.specs.Result.{IsErrAnd}
use Rattle.capnp_frame.specs.declared.error.Error.{Error}
use Rattle.capnp_frame.specs.declared.error.ErrorKind.{ErrorKind}
use Rattle.capnp_layout.specs.Prelude.{Trees, none, tree, count, total_words, output}
use Rattle.capnp_wire.specs.Prelude.{WordsError, HasPart}
use Rattle.capnp_wire.specs.declared.traits.TreeWords.{TreeWords}
use Rattle.capnp_layout.proofs.trees.TrimIdempotenceAndSizeLemmas.{total-trim}
use Rattle.capnp_wire.proofs.views.ValueAsPartTwoMeasuresLemmas.{untrimmed_words, same_tree_words}
use Rattle.capnp_values.specs.Fields.{IsSettled, IsValueInFront, FieldsError}
use Rattle.capnp_values.specs.FieldLaws.{settled_none, settled_more}
use Rattle.capnp_values.specs.Measured.{tree_words, both_words, MeasuresValue}
use Rattle.capnp_values.specs.Lists.{AreItems, ValuesError}
use Rattle.capnp_values.proofs.values.ValueAsPartWordsLemmas.{words_of_part, has_part, part_of, part_less, more_total}
use Rattle.capnp_values.proofs.values.MeasureOutcomeIsUniqueLemmas.{same_words, error_first, error_rest}
use Rattle.capnp_values.proofs.values.MeasureWithinBoundElseErrorLemmas.{AreMeasured}

-- the values from one on
pub from_here : {V : Type 0} (items : List V) (i : ℕ) (v : V) → i < length items → v ≡ get_or items i v → drop i items ≡ v ∷ drop (i + 1) items
from_here [] i v within e = absurd (omega (arith, within))
from_here {V = V} (x ∷ xs) zero v within e = ap (λ (y : V). y ∷ xs) (sym e)
from_here {V = V} (x ∷ xs) (suc i) v within e =
    let next : suc (i + 1) ≡ suc i + 1 = omega arith in
    from_here xs i v (omega arith) e ∙ ap (λ (n : ℕ). v ∷ drop n (x ∷ xs)) next

-- their trees
pub items_settled : {V : Type 0} (h : V → Trees → Type 0) (vs : List V) (t : Trees) → AreItems h vs t → IsSettled (length vs) t
items_settled h [] t is = settled_none t is
items_settled h (v ∷ vs) t is =
    let next : length vs + 1 ≡ suc (length vs) = omega arith in
    subst (λ (n : ℕ). IsSettled n t) next (settled_more (length vs) t (h v) (λ x. AreItems h vs x) is (items_settled h vs is.rest is.others))

pub output_small : (c : Bool) (size : ℕ) (t : Trees) → IsSettled size t → total_words (output c t) ≤ size * 2 ^ 29
output_small true size t s = omega (arith, total-trim t s.rooms, s.few)
output_small false size t s = s.few

-- the words of trees, and of others after them
abbrev pub onto : TreeWords → Result TreeWords Error → Result TreeWords Error
onto words (Ok more) = Ok (both_words words more)
onto words (Err error) = Err error

pub onto_none : (rest : Result TreeWords Error) → onto (record { untrimmed = 0; output = 0 }) rest ≡ rest
onto_none (Ok more) = ap (λ (w : TreeWords). Ok w) (same_tree_words (both_words (record { untrimmed = 0; output = 0 }) more) more (omega arith) (omega arith))
onto_none (Err error) = refl

pub onto_both : (a b : TreeWords) (rest : Result TreeWords Error) → onto a (onto b rest) ≡ onto (both_words a b) rest
onto_both a b (Ok more) = ap (λ (w : TreeWords). Ok w) (same_tree_words (both_words a (both_words b more)) (both_words (both_words a b) more) (omega arith) (omega arith))
onto_both a b (Err error) = refl

-- what is measured of some values
abbrev pub MeasuresItems : {V : Type 0} → (V → Trees → Type 0) → (V → ErrorKind → Type 0) → List V → Bool → Result TreeWords Error → Type 0
MeasuresItems h r vs c res = MeasuresValue (λ t. AreItems h vs t) (λ k. ValuesError h r vs k) c res

pub measured_few : (h : Trees → Type 0) (c : Bool) (size : ℕ) (words : TreeWords) → ((t : Trees) → h t → IsSettled size t) → AreMeasured h c words
    → (words.untrimmed ≤ size * 2 ^ 29) × (words.output ≤ size * 2 ^ 29)
measured_few h c size words settled a =
    let s = settled a.0 a.1 in
    (omega (arith, ap (λ (w : TreeWords). w.untrimmed) a.3, s.few), omega (arith, ap (λ (w : TreeWords). w.output) a.3, output_small c size a.0 s))

-- a value in front of others: it fails, or it is measured, and so are the others
abbrev MeasuresFront : (Trees → Type 0) → (Trees → Type 0) → (ErrorKind → Type 0) → (ErrorKind → Type 0) → Bool → Result TreeWords Error → Type 0
MeasuresFront h hs r rs c res = MeasuresValue (λ t. IsValueInFront h hs t) (λ k. FieldsError h r rs k) c res

pub first_item_error : (h hs : Trees → Type 0) (r rs : ErrorKind → Type 0) (c : Bool) (returned : Result TreeWords Error) (error : Error) → returned ≡ Err error → WordsError h r false error.kind
    → ((words : TreeWords) → HasPart h c words → returned ≡ Ok words) → ((k : ErrorKind) → WordsError h r false k → IsErrAnd returned (λ e. e.kind ≡ k)) → MeasuresFront h hs r rs c (Err error)
first_item_error h hs r rs c returned error was words_error found exact = record {
  returned = inl words_error;
  found = λ trees is. let ok : returned ≡ Ok (words_of_part c is.form is.children) = found (words_of_part c is.form is.children) (has_part h c is.form is.children is.part) in absurd (cc);
  exact = λ kind errors. error_first h r rs c returned error kind was found exact errors;
}

rest_error : (h hs : Trees → Type 0) (r rs : ErrorKind → Type 0) (c : Bool) (returned : Result TreeWords Error) (own : TreeWords) (error : Error) → returned ≡ Ok own → HasPart h c own
    → ((k : ErrorKind) → WordsError h r false k → IsErrAnd returned (λ e. e.kind ≡ k)) → MeasuresValue hs rs c (Err error) → MeasuresFront h hs r rs c (Err error)
rest_error h hs r rs c returned own error was has exact m = record {
  returned = inr (own.untrimmed, untrimmed_words h c own has, m.returned);
  found = λ trees is. let ok : Err error ≡ Ok (tree_words c is.rest) = m.found is.rest is.others in absurd (cc);
  exact = λ kind errors. m.exact kind (error_rest h r rs returned own kind was exact errors);
}

fields_words : (h hs : Trees → Type 0) (rs : ErrorKind → Type 0) (c : Bool) (returned : Result TreeWords Error) (own words : TreeWords) → returned ≡ Ok own
    → ((parts : TreeWords) → HasPart h c parts → returned ≡ Ok parts) → MeasuresValue hs rs c (Ok words) → (trees : Trees) → IsValueInFront h hs trees → both_words own words ≡ tree_words c trees
fields_words h hs rs c returned own words was found m trees is =
    let there : Ok words ≡ Ok (tree_words c is.rest) = m.found is.rest is.others in
    let same : words ≡ tree_words c is.rest = cc in
    let own_is : own ≡ words_of_part c is.form is.children =
    same_words returned own (words_of_part c is.form is.children) was (found (words_of_part c is.form is.children) (has_part h c is.form is.children is.part)) in
    same_tree_words (both_words own words) (tree_words c (tree is.form is.children is.rest))
    (omega (arith, ap (λ (w : TreeWords). w.untrimmed) same, ap (λ (w : TreeWords). w.untrimmed) own_is))
    (omega (arith, ap (λ (w : TreeWords). w.output) same, ap (λ (w : TreeWords). w.output) own_is, more_total c is.form is.children is.rest))
    ∙ sym (ap (tree_words c) is.whole)

fields_measured : (h hs : Trees → Type 0) (r rs : ErrorKind → Type 0) (c : Bool) (returned : Result TreeWords Error) (own words : TreeWords) → returned ≡ Ok own → HasPart h c own
    → ((trees : Trees) → h trees → count trees ≡ 1) → ((parts : TreeWords) → HasPart h c parts → returned ≡ Ok parts)
    → ((k : ErrorKind) → WordsError h r false k → IsErrAnd returned (λ e. e.kind ≡ k)) → MeasuresValue hs rs c (Ok words) → MeasuresFront h hs r rs c (Ok (both_words own words))
fields_measured h hs r rs c returned own words was has one found exact m =
    let p = part_of h c own one has in
    let a = m.returned in
    let is : IsValueInFront h hs (tree p.form p.children a.0) = record { form = p.form; children = p.children; rest = a.0; whole = refl; part = p.part; others = a.1 } in
    record {
      returned = (tree p.form p.children a.0, is, (p.part.rooms.0, p.part.rooms.1, a.2), fields_words h hs rs c returned own words was found m (tree p.form p.children a.0) is);
      found = λ trees there. ap (λ (w : TreeWords). Ok w) (fields_words h hs rs c returned own words was found m trees there);
      exact = λ kind errors. m.exact kind (error_rest h r rs returned own kind was exact errors);
    }

pub value_front : (h hs : Trees → Type 0) (r rs : ErrorKind → Type 0) (c : Bool) (returned : Result TreeWords Error) (own : TreeWords) (rest : Result TreeWords Error) → returned ≡ Ok own → HasPart h c own
    → ((trees : Trees) → h trees → count trees ≡ 1) → ((parts : TreeWords) → HasPart h c parts → returned ≡ Ok parts)
    → ((k : ErrorKind) → WordsError h r false k → IsErrAnd returned (λ e. e.kind ≡ k)) → MeasuresValue hs rs c rest → MeasuresFront h hs r rs c (onto own rest)
value_front h hs r rs c returned own (Ok words) was has one found exact m = fields_measured h hs r rs c returned own words was has one found exact m
value_front h hs r rs c returned own (Err error) was has one found exact m = rest_error h hs r rs c returned own error was has exact m

-- how far the measuring of values has come: once the values that are left are measured, all are
pub record ItemsMeasured {V : Type 0} (h : V → Trees → Type 0) (r : V → ErrorKind → Type 0) (c : Bool) (items : List V) (i : ℕ) (words : TreeWords) : Type 0 where
  pub untrimmed_few : words.untrimmed ≤ i * 2 ^ 29
  pub output_few : words.output ≤ i * 2 ^ 29
  pub ends : (rest : Result TreeWords Error) → MeasuresItems h r (drop i items) c rest → MeasuresItems h r items c (onto words rest)

pub measuring_begins : {V : Type 0} (h : V → Trees → Type 0) (r : V → ErrorKind → Type 0) (c : Bool) (items : List V) → ItemsMeasured h r c items 0 (record { untrimmed = 0; output = 0 })
measuring_begins h r c items = record {
  untrimmed_few = omega arith;
  output_few = omega arith;
  ends = λ rest m. subst (λ (x : Result TreeWords Error). MeasuresItems h r items c x) (sym (onto_none rest)) m;
}

pub measuring_goes_on : {V : Type 0} (h : V → Trees → Type 0) (r : V → ErrorKind → Type 0) (c : Bool) (items : List V) (i : ℕ) (words : TreeWords) (v : V) (returned : Result TreeWords Error) (own : TreeWords)
    → i < length items → v ≡ get_or items i v → returned ≡ Ok own → HasPart (h v) c own → ((trees : Trees) → h v trees → count trees ≡ 1)
    → ((parts : TreeWords) → HasPart (h v) c parts → returned ≡ Ok parts) → ((k : ErrorKind) → WordsError (h v) (r v) false k → IsErrAnd returned (λ e. e.kind ≡ k))
    → ItemsMeasured h r c items i words → ItemsMeasured h r c items (i + 1) (both_words words own)
measuring_goes_on {V = V} h r c items i words v returned own within is was has one found exact so_far =
    let p = part_of (h v) c own one has in
    let small : own.untrimmed < 2 ^ 29 = has.few in
    let less : own.output ≤ own.untrimmed = omega (arith, p.untrimmed_same, p.output_is, part_less c p.form p.children p.part.rooms) in
    record {
      untrimmed_few = omega (arith, so_far.untrimmed_few, small);
      output_few = omega (arith, so_far.output_few, small, less);
      ends = λ rest m.
          let here = subst (λ (l : List V). MeasuresItems h r l c (onto own rest)) (sym (from_here items i v within is))
          (value_front (h v) (λ t. AreItems h (drop (i + 1) items) t) (r v) (λ k. ValuesError h r (drop (i + 1) items) k) c returned own rest was has one found exact m) in
          subst (λ (x : Result TreeWords Error). MeasuresItems h r items c x) (onto_both words own rest) (so_far.ends (onto own rest) here);
    }

pub measuring_fails : {V : Type 0} (h : V → Trees → Type 0) (r : V → ErrorKind → Type 0) (c : Bool) (items : List V) (i : ℕ) (words : TreeWords) (v : V) (returned : Result TreeWords Error) (error : Error)
    → i < length items → v ≡ get_or items i v → returned ≡ Err error → WordsError (h v) (r v) false error.kind → ((parts : TreeWords) → HasPart (h v) c parts → returned ≡ Ok parts)
    → ((k : ErrorKind) → WordsError (h v) (r v) false k → IsErrAnd returned (λ e. e.kind ≡ k)) → ItemsMeasured h r c items i words → MeasuresItems h r items c (Err error)
measuring_fails {V = V} h r c items i words v returned error within is was words_error found exact so_far =
    so_far.ends (Err error) (subst (λ (l : List V). MeasuresItems h r l c (Err error)) (sym (from_here items i v within is))
    (first_item_error (h v) (λ t. AreItems h (drop (i + 1) items) t) (r v) (λ k. ValuesError h r (drop (i + 1) items) k) c returned error was words_error found exact))

pub nothing_after : (c : Bool) → record { untrimmed = 0; output = 0 } ≡ tree_words c none
nothing_after true = refl
nothing_after false = refl

none_measured : {V : Type 0} (h : V → Trees → Type 0) (r : V → ErrorKind → Type 0) (c : Bool) → MeasuresItems h r [] c (Ok (record { untrimmed = 0; output = 0 }))
none_measured h r c = record { returned = (none, refl, tt, nothing_after c); found = λ trees is. ap (λ (w : TreeWords). Ok w) (nothing_after c ∙ ap (tree_words c) (sym is)); exact = λ kind errors. absurd errors }

pub no_item_left : {V : Type 0} (items : List V) (n : ℕ) → length items ≤ n → drop n items ≡ []
no_item_left [] zero past = refl
no_item_left [] (suc n) past = refl
no_item_left (x ∷ xs) zero past = absurd (omega (arith, past))
no_item_left (x ∷ xs) (suc n) past = no_item_left xs n (omega (arith, past))

pub measuring_ends : {V : Type 0} (h : V → Trees → Type 0) (r : V → ErrorKind → Type 0) (c : Bool) (items : List V) (i : ℕ) (words : TreeWords) → length items ≤ i
    → ItemsMeasured h r c items i words → MeasuresItems h r items c (Ok words)
measuring_ends {V = V} h r c items i words past so_far =
    subst (λ (w : TreeWords). MeasuresItems h r items c (Ok w)) (same_tree_words (both_words words (record { untrimmed = 0; output = 0 })) words (omega arith) (omega arith))
    (so_far.ends (Ok (record { untrimmed = 0; output = 0 }))
    (subst (λ (l : List V). MeasuresItems h r l c (Ok (record { untrimmed = 0; output = 0 }))) (sym (no_item_left items i past)) (none_measured h r c)))
