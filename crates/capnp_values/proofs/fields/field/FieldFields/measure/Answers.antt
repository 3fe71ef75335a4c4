-- The words of fields are the words of the first value and of the fields after it.
use Rattle.std.proofs.Common.{rules, ◌≡◌, Ok, Err, Result, sym, subst, arith}
use Rattle.capnp_frame.specs.declared.error.Error.{Error}
use Rattle.capnp_wire.specs.declared.traits.TreeWords.{TreeWords}
use Rattle.capnp_wire.proofs.views.ValueAsPartTwoMeasuresLemmas.{output_words}
use Rattle.capnp_values.specs.Fields.{IsValueInFront, FieldsError}
use Rattle.capnp_values.specs.Measured.{MeasuresValue}
use Rattle.capnp_values.proofs.lists.ItemMeasureLemmas.{measured_few, first_item_error, value_front}
use Rattle.capnp_values.proofs.fields.field.FieldFields.measure.Goals as goal

pub returns-in_err-own : goal.returns-in_err-own
returns-in_err-own g c =
    let h = g.V.SetterInput.has_tree c.args.self.now.value in
    let hs = g.F.Fields.has_trees c.args.self.now.rest in
    let r = g.V.SetterInput.fails c.args.self.now.value in
    let rs = g.F.Fields.fails c.args.self.now.rest in
    let was : c.from_residual.result ≡ Err c.in_err-own.field-0.0 = search rules in
    subst (λ (x : Result TreeWords Error). MeasuresValue (λ t. IsValueInFront h hs t) (λ k. FieldsError h r rs k) c.args.canonical x) (sym was)
    (first_item_error h hs r rs c.args.canonical c.measure_part.result c.in_err-own.field-0.0 c.in_err-own.was c.in_err-own.ensures.returned c.measure_part.ensures.found c.measure_part.ensures.exact)

pub returns-in_err-rest : goal.returns-in_err-rest
returns-in_err-rest g c =
    let h = g.V.SetterInput.has_tree c.args.self.now.value in
    let hs = g.F.Fields.has_trees c.args.self.now.rest in
    let r = g.V.SetterInput.fails c.args.self.now.value in
    let rs = g.F.Fields.fails c.args.self.now.rest in
    let was : c.from_residual-in_err-rest.result ≡ Err c.in_err-rest.field-0.0 = search rules in
    subst (λ (x : Result TreeWords Error). MeasuresValue (λ t. IsValueInFront h hs t) (λ k. FieldsError h r rs k) c.args.canonical x) (sym was)
    (value_front h hs r rs c.args.canonical c.measure_part.result c.in_ok-own.own (Err c.in_err-rest.field-0.0) c.in_ok-own.was c.in_ok-own.ensures.returned (g.met.V.SetterInput.one c.args.self.now.value)
    c.measure_part.ensures.found c.measure_part.ensures.exact (subst (λ (x : Result TreeWords Error). MeasuresValue hs rs c.args.canonical x) c.in_err-rest.was c.measure.ensures))

pub both-requires-clause-untrimmed : goal.both-requires-clause-untrimmed
both-requires-clause-untrimmed g c =
    let few = measured_few (g.F.Fields.has_trees c.args.self.now.rest) c.args.canonical g.F.Fields.size c.in_ok-rest.rest (g.met.F.Fields.settled c.args.self.now.rest) c.in_ok-rest.ensures.returned in
    omega (arith, few.0, c.in_ok-own.ensures.returned.few, c.requires)

pub both-requires-clause-output : goal.both-requires-clause-output
both-requires-clause-output g c =
    let few = measured_few (g.F.Fields.has_trees c.args.self.now.rest) c.args.canonical g.F.Fields.size c.in_ok-rest.rest (g.met.F.Fields.settled c.args.self.now.rest) c.in_ok-rest.ensures.returned in
    omega (arith, few.1, (output_words (g.V.SetterInput.has_tree c.args.self.now.value) c.args.canonical c.in_ok-own.own c.in_ok-own.ensures.returned).few, c.requires)

pub returns : goal.returns
returns g c =
    let h = g.V.SetterInput.has_tree c.args.self.now.value in
    let hs = g.F.Fields.has_trees c.args.self.now.rest in
    let r = g.V.SetterInput.fails c.args.self.now.value in
    let rs = g.F.Fields.fails c.args.self.now.rest in
    subst (λ (x : TreeWords). MeasuresValue (λ t. IsValueInFront h hs t) (λ k. FieldsError h r rs k) c.args.canonical (Ok x)) (sym c.both.ensures)
    (value_front h hs r rs c.args.canonical c.measure_part.result c.in_ok-own.own (Ok c.in_ok-rest.rest) c.in_ok-own.was c.in_ok-own.ensures.returned (g.met.V.SetterInput.one c.args.self.now.value)
    c.measure_part.ensures.found c.measure_part.ensures.exact c.in_ok-rest.ensures)
