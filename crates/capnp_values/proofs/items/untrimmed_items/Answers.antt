-- Each value is measured after those before it.
use Rattle.std.proofs.Common.{rules, ◌≡◌, Err, Result, false, subst, sym, ap, arith}
use Rattle.capnp_frame.specs.declared.error.Error.{Error}
use Rattle.capnp_wire.specs.declared.traits.TreeWords.{TreeWords}
use Rattle.capnp_values.proofs.lists.ItemMeasureLemmas.{MeasuresItems, measuring_begins, measuring_goes_on, measuring_fails, measuring_ends}
use Rattle.capnp_values.proofs.values.EqualWordsIfUntrimmedLemmas.{as_part, as_parts, untrimmed_part, as_parts_found, as_parts_error}
use Rattle.capnp_values.proofs.values.LazyValueAsDeclaredLemmas.{part_declared, part_made, words_error_declared, words_error_made}
use Rattle.capnp_values.proofs.items.untrimmed_items.Goals as goal

pub loop-index-init : goal.loop-index-init
loop-index-init g c = measuring_begins (g.S.ValueSource.has_tree c.args.items.now) (g.S.ValueSource.fails c.args.items.now) false (g.S.ValueSource.items c.args.items.now)

pub overflow_add-words : goal.overflow_add-words
overflow_add-words g c = record { fits = omega (arith, c.loop-index.invariant.untrimmed_few, c.in_ok-own.ensures.returned.few, c.loop-index-test.true, c.len-count.ensures, c.requires) }

pub loop-index-preserved : goal.loop-index-preserved
loop-index-preserved g c =
    let h = g.S.Value.SetterInput.has_tree c.get-item.result in
    measuring_goes_on (g.S.ValueSource.has_tree c.args.items.now) (g.S.ValueSource.fails c.args.items.now) false (g.S.ValueSource.items c.args.items.now) c.loop-index.index _ c.get-item.ensures.0 (as_parts c.measure.result) (as_part c.in_ok-own.own)
    (omega (arith, c.loop-index-test.true, c.len-count.ensures)) c.get-item.ensures.1 (ap as_parts c.in_ok-own.was) (part_declared c.get-item.ensures.2 false (as_part c.in_ok-own.own) (untrimmed_part h c.in_ok-own.own c.in_ok-own.ensures.returned)) (λ t is. g.met.S.Value.SetterInput.one c.get-item.result t (c.get-item.ensures.2.trees_are t is))
    (λ words has. as_parts_found h c.measure.result c.measure.ensures.found words (part_made c.get-item.ensures.2 false words has)) (λ k words_error. as_parts_error c.measure.result k (c.measure.ensures.exact k (words_error_made c.get-item.ensures.2 false k words_error))) c.loop-index.invariant

pub returns-in_err-own : goal.returns-in_err-own
returns-in_err-own g c =
    let h = (g.S.ValueSource.has_tree c.args.items.now) in
    let r = (g.S.ValueSource.fails c.args.items.now) in
    let was : c.from_residual.result ≡ Err c.in_err-own.field-0.0 = search rules in
    subst (λ (x : Result TreeWords Error). MeasuresItems h r (g.S.ValueSource.items c.args.items.now) false x) (sym was)
    (measuring_fails h r false (g.S.ValueSource.items c.args.items.now) c.loop-index.index _ c.get-item.ensures.0 (as_parts c.measure.result) c.in_err-own.field-0.0 (omega (arith, c.loop-index-test.true, c.len-count.ensures)) c.get-item.ensures.1
    (ap as_parts c.in_err-own.was) (words_error_declared c.get-item.ensures.2 false c.in_err-own.field-0.0.kind c.in_err-own.ensures.returned) (λ words has. as_parts_found (g.S.Value.SetterInput.has_tree c.get-item.result) c.measure.result c.measure.ensures.found words (part_made c.get-item.ensures.2 false words has))
    (λ k words_error. as_parts_error c.measure.result k (c.measure.ensures.exact k (words_error_made c.get-item.ensures.2 false k words_error))) c.loop-index.invariant)

pub returns : goal.returns
returns g c = measuring_ends (g.S.ValueSource.has_tree c.args.items.now) (g.S.ValueSource.fails c.args.items.now) false (g.S.ValueSource.items c.args.items.now) c.loop-index.index _ (omega arith) c.loop-index.invariant
