-- A struct has the data words that it keeps, a word for each pointer, and the words of its fields.
use Rattle.std.proofs.Common.{rules, ◌≡◌, false, Err, IsTrue, Result, length, subst, sym, arith}
use Rattle.capnp_frame.specs.declared.error.Error.{Error}
use Rattle.capnp_values.specs.Measured.{MeasuresValue}
use Rattle.capnp_values.specs.Structs.{IsStructTree, StructError}
use Rattle.capnp_wire.specs.declared.traits.TreeWords.{TreeWords}
use Rattle.capnp_values.proofs.lists.ItemMeasureLemmas.{measured_few}
use Rattle.capnp_values.proofs.structs.StructMeasureLemmas.{not_fitting, struct_too_large, struct_error, struct_value_measured}
use Rattle.capnp_values.proofs.struct_value.measure_struct.Goals as goal

pub returns-then-not-fits : goal.returns-then-not-fits
returns-then-not-fits g c =
    let no_fit : c.fits.result ≡ false = search rules in
    let no = not_fitting (length c.args.words.now) c.count.result g.F.Fields.size c.fits.result c.fits.ensures no_fit c.count.ensures in
    struct_too_large c.args.canonical c.args.words.now g.F.Fields.size (g.F.Fields.has_trees c.args.fields.now) (g.F.Fields.fails c.args.fields.now) c.from_kind.result no c.from_kind.ensures

pub returns-in_err-children : goal.returns-in_err-children
returns-in_err-children g c =
    let yes : IsTrue c.fits.result = search rules in
    let small = c.fits.ensures.0 yes in
    let hs = g.F.Fields.has_trees c.args.fields.now in
    let rs = g.F.Fields.fails c.args.fields.now in
    let was : c.from_residual.result ≡ Err c.in_err-children.field-0.0 = search rules in
    subst (λ (x : Result TreeWords Error). MeasuresValue (λ t. IsStructTree c.args.words.now g.F.Fields.size hs t) (λ k. StructError (length c.args.words.now) g.F.Fields.size rs k) c.args.canonical x) (sym was)
    (struct_error c.args.canonical c.args.words.now g.F.Fields.size hs rs c.measure.result c.in_err-children.field-0.0 c.in_err-children.was c.measure.ensures small.0 (omega (arith, small.1, c.count.ensures)))

pub overflow_add-untrimmed-2 : goal.overflow_add-untrimmed-2
overflow_add-untrimmed-2 g c =
    let yes : IsTrue c.fits.result = search rules in
    let small = c.fits.ensures.0 yes in
    let few = measured_few (g.F.Fields.has_trees c.args.fields.now) c.args.canonical g.F.Fields.size c.in_ok-children.children (g.met.F.Fields.settled c.args.fields.now) c.in_ok-children.ensures.returned in
    record { fits = omega (arith, few.0, small.0, small.1, c.count.ensures, c.count-2.ensures) }

pub overflow_add-output : goal.overflow_add-output
overflow_add-output g c =
    let yes : IsTrue c.fits.result = search rules in
    let small = c.fits.ensures.0 yes in
    record { fits = omega (arith, small.0, c.kept-pointers.ensures.bound, small.1, c.count.ensures, c.kept_data-data.ensures.bound) }

pub overflow_add-output-2 : goal.overflow_add-output-2
overflow_add-output-2 g c =
    let yes : IsTrue c.fits.result = search rules in
    let small = c.fits.ensures.0 yes in
    let few = measured_few (g.F.Fields.has_trees c.args.fields.now) c.args.canonical g.F.Fields.size c.in_ok-children.children (g.met.F.Fields.settled c.args.fields.now) c.in_ok-children.ensures.returned in
    record { fits = omega (arith, few.1, small.0, c.kept-pointers.ensures.bound, small.1, c.count.ensures, c.kept_data-data.ensures.bound) }

pub returns : goal.returns
returns g c =
    let yes : IsTrue c.fits.result = search rules in
    let small = c.fits.ensures.0 yes in
    struct_value_measured c.args.canonical c.args.words.now g.F.Fields.size (g.F.Fields.has_trees c.args.fields.now) (g.F.Fields.fails c.args.fields.now) c.measure.result c.in_ok-children.children
    c.kept-pointers.result _ _ (g.met.F.Fields.settled c.args.fields.now) c.in_ok-children.was c.measure.ensures c.kept-pointers.ensures.kept small.0 (omega (arith, small.1, c.count.ensures)) c.words_fit.ensures
    (omega (arith, c.count-2.ensures, small.1, c.count.ensures)) (omega (arith, c.kept_data-data.ensures.value))
