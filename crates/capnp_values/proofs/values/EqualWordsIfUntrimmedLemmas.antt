-- Values that are measured untrimmed: both numbers of words are the same.
use Rattle.std.proofs.Common.{◌≡◌, ℕ, ◌+◌, false, Result, Ok, Err, MatchResult, refl, sym, ◌∙◌, ap, arith}
use Rattle.std.specs.Result.{IsErrAnd}
use Rattle.capnp_frame.specs.declared.error.Error.{Error}
use Rattle.capnp_frame.specs.declared.error.ErrorKind.{ErrorKind}
use Rattle.capnp_layout.specs.Prelude.{Trees, none, tree, count, total_words}
use Rattle.capnp_wire.specs.Prelude.{HasWords, HasPart}
use Rattle.capnp_wire.specs.declared.traits.TreeWords.{TreeWords}
use Rattle.capnp_wire.proofs.views.ValueAsPartTwoMeasuresLemmas.{untrimmed_words, same_tree_words}
use Rattle.capnp_values.specs.Measured.{MeasuresValue}
use Rattle.capnp_values.specs.Fields.{IsValueInFront, IsSettled, HasTotal}
use Rattle.capnp_values.proofs.values.ValueAsPartWordsLemmas.{words_of_part, has_part, part_of}

-- the words of a part, and what is measured of it
abbrev pub as_part : ℕ → TreeWords
as_part words = record { untrimmed = words; output = words }

abbrev pub as_parts : Result ℕ Error → Result TreeWords Error
as_parts (Ok words) = Ok (record { untrimmed = words; output = words })
as_parts (Err error) = Err error

pub untrimmed_part : (h : Trees → Type 0) (words : ℕ) → HasWords h false words → HasPart h false (as_part words)
untrimmed_part h words w = record { trees = w.trees; tree_is = w.tree_is; rooms = w.rooms; untrimmed_same = w.words_are; output_is = w.words_are; few = w.few }

pub as_parts_found : (h : Trees → Type 0) (measured : Result ℕ Error) → ((n : ℕ) → HasWords h false n → measured ≡ Ok n) → (words : TreeWords) → HasPart h false words → as_parts measured ≡ Ok words
as_parts_found h measured found words p =
    ap as_parts (found words.untrimmed (untrimmed_words h false words p))
    ∙ ap (λ (w : TreeWords). Ok w) (same_tree_words (as_part words.untrimmed) words refl (p.untrimmed_same ∙ sym p.output_is))

pub as_parts_error : (measured : Result ℕ Error) (kind : ErrorKind) → IsErrAnd measured (λ e. e.kind ≡ kind) → IsErrAnd (as_parts measured) (λ e. e.kind ≡ kind)
as_parts_error (Ok words) kind errors = errors
as_parts_error (Err error) kind errors = errors

-- the words of fields, and what is measured of them
pub untrimmed_fields_measured : (h : Trees → Type 0) (r : ErrorKind → Type 0) (p : ℕ) (measured : Result ℕ Error) → ((trees : Trees) → h trees → IsSettled p trees)
    → MatchResult measured (λ words. HasTotal h words) (λ error. r error.kind) → ((trees : Trees) → h trees → measured ≡ Ok (total_words trees))
    → ((kind : ErrorKind) → r kind → IsErrAnd measured (λ e. e.kind ≡ kind)) → MeasuresValue h r false (as_parts measured)
untrimmed_fields_measured h r p (Ok words) settled has found exact = record {
  returned = (has.0, has.1, (settled has.0 has.1).rooms, ap as_part has.2);
  found = λ trees is. ap as_parts (found trees is);
  exact = exact;
}
untrimmed_fields_measured h r p (Err error) settled errors found exact = record { returned = errors; found = λ trees is. ap as_parts (found trees is); exact = exact }

same_ok : (r : Result ℕ Error) (x y : ℕ) → r ≡ Ok x → r ≡ Ok y → x ≡ y
same_ok r x y a b = cc

-- the words of a value in front of others
pub front_total : (h hs : Trees → Type 0) (own rest : ℕ) → ((trees : Trees) → h trees → count trees ≡ 1) → HasWords h false own → HasTotal hs rest → HasTotal (λ t. IsValueInFront h hs t) (own + rest)
front_total h hs own rest one w total =
    let p = part_of h false (as_part own) one (untrimmed_part h own w) in
    let is : IsValueInFront h hs (tree p.form p.children total.0) = record { form = p.form; children = p.children; rest = total.0; whole = refl; part = p.part; others = total.1 } in
    (tree p.form p.children total.0, is, omega (arith, p.untrimmed_same, total.2))

pub front_found : (h hs : Trees → Type 0) (measured others : Result ℕ Error) (own rest : ℕ) → measured ≡ Ok own → others ≡ Ok rest → ((n : ℕ) → HasWords h false n → measured ≡ Ok n)
    → ((trees : Trees) → hs trees → others ≡ Ok (total_words trees)) → (trees : Trees) → IsValueInFront h hs trees → own + rest ≡ total_words trees
front_found h hs measured others own rest was was_rest found found_rest trees is =
    let w = untrimmed_words h false (words_of_part false is.form is.children) (has_part h false is.form is.children is.part) in
    let a : own ≡ total_words (tree is.form is.children none) = same_ok measured own (total_words (tree is.form is.children none)) was (found (total_words (tree is.form is.children none)) w) in
    let b : rest ≡ total_words is.rest = same_ok others rest (total_words is.rest) was_rest (found_rest is.rest is.others) in
    omega (arith, a, b, ap total_words is.whole)
