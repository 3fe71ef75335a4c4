-- The words of fields are the words of the first value and of the fields after it.
use Rattle.std.proofs.Common.{rules, ◌≡◌, ap, Ok, Err, ℕ, false}
use Rattle.capnp_layout.specs.Prelude.{tree, none, total_words}
use Rattle.capnp_wire.proofs.views.ValueAsPartTwoMeasuresLemmas.{untrimmed_words}
use Rattle.capnp_values.proofs.values.ValueAsPartWordsLemmas.{words_of_part, has_part}
use Rattle.capnp_values.proofs.values.MeasureOutcomeIsUniqueLemmas.{ok_not_err, err_kind, error_first, error_rest}
use Rattle.capnp_values.proofs.values.EqualWordsIfUntrimmedLemmas.{as_part, as_parts, as_parts_found, as_parts_error, front_total, front_found}
use Rattle.capnp_values.proofs.fields.field.FieldFields.untrimmed.Goals as goal

pub returns-in_err-own-clause-found : goal.returns-in_err-own-clause-found
returns-in_err-own-clause-found g c trees is =
    let h = g.V.SetterInput.has_tree c.args.self.now.value in
    let found = c.measure.ensures.found (total_words (tree is.form is.children none)) (untrimmed_words h false (words_of_part false is.form is.children) (has_part h false is.form is.children is.part)) in
    let was : c.measure.result ≡ Err c.in_err-own.field-0.0 = c.in_err-own.was in
    absurd (cc)

pub returns-in_err-own-clause-exact : goal.returns-in_err-own-clause-exact
returns-in_err-own-clause-exact g c kind errors =
    let h = g.V.SetterInput.has_tree c.args.self.now.value in
    let same : c.in_err-own.field-0.0.kind ≡ kind =
    error_first h (g.V.SetterInput.fails c.args.self.now.value) (g.F.Fields.fails c.args.self.now.rest) false (as_parts c.measure.result) c.in_err-own.field-0.0 kind
    (ap as_parts c.in_err-own.was) (as_parts_found h c.measure.result c.measure.ensures.found) (λ k words_error. as_parts_error c.measure.result k (c.measure.ensures.exact k words_error)) errors in
    search rules

pub returns-in_err-rest-clause-exact : goal.returns-in_err-rest-clause-exact
returns-in_err-rest-clause-exact g c kind errors =
    let was_rest : c.untrimmed.result ≡ Err c.in_err-rest.field-0.0 = c.in_err-rest.was in
    let others : g.F.Fields.fails c.args.self.now.rest kind =
    error_rest (g.V.SetterInput.has_tree c.args.self.now.value) (g.V.SetterInput.fails c.args.self.now.value) (g.F.Fields.fails c.args.self.now.rest) (as_parts c.measure.result)
    (as_part c.in_ok-own.own) kind (ap as_parts c.in_ok-own.was) (λ k words_error. as_parts_error c.measure.result k (c.measure.ensures.exact k words_error)) errors in
    let same : c.in_err-rest.field-0.0.kind ≡ kind = err_kind c.untrimmed.result c.in_err-rest.field-0.0 kind was_rest (c.untrimmed.ensures.exact kind others) in
    search rules

pub returns-clause-returned : goal.returns-clause-returned
returns-clause-returned g c =
    front_total (g.V.SetterInput.has_tree c.args.self.now.value) (g.F.Fields.has_trees c.args.self.now.rest) c.in_ok-own.own c.in_ok-rest.rest (g.met.V.SetterInput.one c.args.self.now.value)
    c.in_ok-own.ensures.returned c.in_ok-rest.ensures.returned

pub returns-clause-found : goal.returns-clause-found
returns-clause-found g c trees is =
    ap (λ (n : ℕ). Ok n)
    (front_found (g.V.SetterInput.has_tree c.args.self.now.value) (g.F.Fields.has_trees c.args.self.now.rest) c.measure.result c.untrimmed.result c.in_ok-own.own c.in_ok-rest.rest c.in_ok-own.was
    c.in_ok-rest.was c.measure.ensures.found c.untrimmed.ensures.found trees is)

pub returns-clause-exact : goal.returns-clause-exact
returns-clause-exact g c kind errors =
    let others : g.F.Fields.fails c.args.self.now.rest kind =
    error_rest (g.V.SetterInput.has_tree c.args.self.now.value) (g.V.SetterInput.fails c.args.self.now.value) (g.F.Fields.fails c.args.self.now.rest) (as_parts c.measure.result)
    (as_part c.in_ok-own.own) kind (ap as_parts c.in_ok-own.was) (λ k words_error. as_parts_error c.measure.result k (c.measure.ensures.exact k words_error)) errors in
    ok_not_err c.untrimmed.result c.in_ok-rest.rest (λ error. error.kind ≡ kind) c.in_ok-rest.was (c.untrimmed.ensures.exact kind others)
