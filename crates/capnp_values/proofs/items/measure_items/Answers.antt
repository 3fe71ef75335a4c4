-- Each value is measured after those before it.
use Rattle.std.proofs.Common.{rules, ◌≡◌, ◌+◌, Err, Result, false, subst, sym, arith}
use Rattle.capnp_frame.specs.declared.error.Error.{Error}
use Rattle.capnp_wire.proofs.views.ValueAsPartTwoMeasuresLemmas.{output_words}
use Rattle.capnp_wire.specs.declared.traits.TreeWords.{TreeWords}
use Rattle.capnp_values.proofs.lists.ItemMeasureLemmas.{MeasuresItems, ItemsMeasured, measuring_begins, measuring_goes_on, measuring_fails, measuring_ends}
use Rattle.capnp_values.proofs.values.LazyValueAsDeclaredLemmas.{part_declared, part_made, words_error_declared, words_error_made}
use Rattle.capnp_values.proofs.items.measure_items.Goals as goal

pub loop-index-init : goal.loop-index-init
loop-index-init g c = measuring_begins (g.S.ValueSource.has_tree c.args.items.now) (g.S.ValueSource.fails c.args.items.now) c.args.canonical (g.S.ValueSource.items c.args.items.now)

pub both-words-requires-clause-untrimmed : goal.both-words-requires-clause-untrimmed
both-words-requires-clause-untrimmed g c = omega (arith, c.loop-index.invariant.untrimmed_few, c.in_ok-own.ensures.returned.few, c.loop-index-test.true, c.len-count.ensures, c.requires)

pub both-words-requires-clause-output : goal.both-words-requires-clause-output
both-words-requires-clause-output g c =
    omega (
      arith,
      c.loop-index.invariant.output_few,
      (output_words (g.S.Value.SetterInput.has_tree c.get-item.result) c.args.canonical c.in_ok-own.own c.in_ok-own.ensures.returned).few,
      c.loop-index-test.true,
      c.len-count.ensures,
      c.requires,
    )

pub loop-index-preserved : goal.loop-index-preserved
loop-index-preserved g c =
    subst (λ (x : TreeWords). ItemsMeasured (g.S.ValueSource.has_tree c.args.items.now) (g.S.ValueSource.fails c.args.items.now) c.args.canonical (g.S.ValueSource.items c.args.items.now) (c.loop-index.index + 1) x) (sym c.both-words.ensures)
    (measuring_goes_on (g.S.ValueSource.has_tree c.args.items.now) (g.S.ValueSource.fails c.args.items.now) c.args.canonical (g.S.ValueSource.items c.args.items.now) c.loop-index.index c.loop-index.words c.get-item.ensures.0 c.measure_part.result c.in_ok-own.own
    (omega (arith, c.loop-index-test.true, c.len-count.ensures)) c.get-item.ensures.1 c.in_ok-own.was (part_declared c.get-item.ensures.2 c.args.canonical c.in_ok-own.own c.in_ok-own.ensures.returned) (λ t is. g.met.S.Value.SetterInput.one c.get-item.result t (c.get-item.ensures.2.trees_are t is)) (λ words has. c.measure_part.ensures.found words (part_made c.get-item.ensures.2 c.args.canonical words has)) (λ kind words_error. c.measure_part.ensures.exact kind (words_error_made c.get-item.ensures.2 false kind words_error))
    c.loop-index.invariant)

pub returns-in_err-own : goal.returns-in_err-own
returns-in_err-own g c =
    let h = (g.S.ValueSource.has_tree c.args.items.now) in
    let r = (g.S.ValueSource.fails c.args.items.now) in
    let was : c.from_residual.result ≡ Err c.in_err-own.field-0.0 = search rules in
    subst (λ (x : Result TreeWords Error). MeasuresItems h r (g.S.ValueSource.items c.args.items.now) c.args.canonical x) (sym was)
    (measuring_fails h r c.args.canonical (g.S.ValueSource.items c.args.items.now) c.loop-index.index c.loop-index.words c.get-item.ensures.0 c.measure_part.result c.in_err-own.field-0.0 (omega (arith, c.loop-index-test.true, c.len-count.ensures)) c.get-item.ensures.1
    c.in_err-own.was (words_error_declared c.get-item.ensures.2 false c.in_err-own.field-0.0.kind c.in_err-own.ensures.returned) (λ words has. c.measure_part.ensures.found words (part_made c.get-item.ensures.2 c.args.canonical words has)) (λ kind words_error. c.measure_part.ensures.exact kind (words_error_made c.get-item.ensures.2 false kind words_error)) c.loop-index.invariant)

pub returns : goal.returns
returns g c = measuring_ends (g.S.ValueSource.has_tree c.args.items.now) (g.S.ValueSource.fails c.args.items.now) c.args.canonical (g.S.ValueSource.items c.args.items.now) c.loop-index.index c.loop-index.words (omega arith) c.loop-index.invariant
