-- Each struct is measured after those before it.
use Rattle.std.specs.Prelude.{All}
use Rattle.std.proofs.Common.{rules, ◌≡◌, ◌<◌, ◌^◌, ◌∙◌, ℕ, List, length, Ok, Err, false, Result, subst, sym, ap, arith}
use Rattle.capnp_frame.specs.declared.error.Error.{Error}
use Rattle.capnp_wire.specs.declared.traits.TreeWords.{TreeWords}
use Rattle.capnp_values.specs.Measured.{MeasuresValue}
use Rattle.capnp_values.specs.StructLists.{MeasuresElements}
use Rattle.capnp_values.proofs.struct_lists.ElementMeasureLemmas.{structs_measuring_begins, sum_few, structs_measuring_goes_on, structs_measuring_fails, structs_measuring_ends}
use Rattle.capnp_values.proofs.values.EqualWordsIfUntrimmedLemmas.{as_part, as_parts, untrimmed_fields_measured as untrimmed_measured}
use Rattle.capnp_values.proofs.values.LazyValueAsDeclaredLemmas.{declared_fields_measured}
use Rattle.capnp_values.proofs.struct_elements.untrimmed_elements.Goals as goal

pub loop-index-init : goal.loop-index-init
loop-index-init g c = structs_measuring_begins (g.S.StructSource.words c.args.items.now) (g.S.StructSource.has_trees c.args.items.now) (g.S.StructSource.fails c.args.items.now) false g.S.Value.Element.data_words g.S.Value.Fields.size (g.S.StructSource.items c.args.items.now)

pub overflow_add-words : goal.overflow_add-words
overflow_add-words g c =
    let few =
    let m : MeasuresValue (g.S.StructSource.has_trees c.args.items.now c.get-item.ensures.0) (g.S.StructSource.fails c.args.items.now c.get-item.ensures.0) false (Ok (as_part c.in_ok-own.own)) =
    subst (λ (x : Result TreeWords Error). MeasuresValue (g.S.StructSource.has_trees c.args.items.now c.get-item.ensures.0) (g.S.StructSource.fails c.args.items.now c.get-item.ensures.0) false x) (ap as_parts c.in_ok-own.was) (declared_fields_measured c.get-item.ensures.3 false (as_parts c.untrimmed.result) (untrimmed_measured (g.S.Value.Fields.has_trees c.get-item.result) (g.S.Value.Fields.fails c.get-item.result) g.S.Value.Fields.size c.untrimmed.result
    (g.met.S.Value.Fields.settled c.get-item.result) c.untrimmed.ensures.returned c.untrimmed.ensures.found c.untrimmed.ensures.exact)) in
    sum_few (g.S.StructSource.words c.args.items.now) (g.S.StructSource.has_trees c.args.items.now) (g.S.StructSource.fails c.args.items.now) false g.S.Value.Element.data_words g.S.Value.Fields.size (g.met.S.StructSource.settled c.args.items.now) (g.S.StructSource.items c.args.items.now) c.loop-index.index _ (as_part c.in_ok-own.own) c.get-item.ensures.0
    (omega (arith, c.loop-index-test.true, c.len-count.ensures)) c.requires.few c.requires.pointers m c.loop-index.invariant in
    record { fits = omega (arith, few.0) }

pub loop-index-preserved : goal.loop-index-preserved
loop-index-preserved g c =
    let m : MeasuresValue (g.S.StructSource.has_trees c.args.items.now c.get-item.ensures.0) (g.S.StructSource.fails c.args.items.now c.get-item.ensures.0) false (Ok (as_part c.in_ok-own.own)) =
    subst (λ (x : Result TreeWords Error). MeasuresValue (g.S.StructSource.has_trees c.args.items.now c.get-item.ensures.0) (g.S.StructSource.fails c.args.items.now c.get-item.ensures.0) false x) (ap as_parts c.in_ok-own.was) (declared_fields_measured c.get-item.ensures.3 false (as_parts c.untrimmed.result) (untrimmed_measured (g.S.Value.Fields.has_trees c.get-item.result) (g.S.Value.Fields.fails c.get-item.result) g.S.Value.Fields.size c.untrimmed.result
    (g.met.S.Value.Fields.settled c.get-item.result) c.untrimmed.ensures.returned c.untrimmed.ensures.found c.untrimmed.ensures.exact)) in
    (structs_measuring_goes_on (g.S.StructSource.words c.args.items.now) (g.S.StructSource.has_trees c.args.items.now) (g.S.StructSource.fails c.args.items.now) false g.S.Value.Element.data_words g.S.Value.Fields.size (g.met.S.StructSource.settled c.args.items.now) (g.S.StructSource.items c.args.items.now) c.loop-index.index _ (as_part c.in_ok-own.own) c.get-item.ensures.0
    (omega (arith, c.loop-index-test.true, c.len-count.ensures)) c.get-item.ensures.1 m (ap (λ (l : List ℕ). length l) (sym c.get-item.ensures.2) ∙ c.words-data_words.ensures.long)
    (subst (λ (l : List ℕ). All (λ k. k < 2 ^ 64) l) c.get-item.ensures.2 c.words-data_words.ensures.fit) c.loop-index.invariant)

pub returns-in_err-own : goal.returns-in_err-own
returns-in_err-own g c =
    let m : MeasuresValue (g.S.StructSource.has_trees c.args.items.now c.get-item.ensures.0) (g.S.StructSource.fails c.args.items.now c.get-item.ensures.0) false (Err c.in_err-own.field-0.0) =
    subst (λ (x : Result TreeWords Error). MeasuresValue (g.S.StructSource.has_trees c.args.items.now c.get-item.ensures.0) (g.S.StructSource.fails c.args.items.now c.get-item.ensures.0) false x) (ap as_parts c.in_err-own.was) (declared_fields_measured c.get-item.ensures.3 false (as_parts c.untrimmed.result) (untrimmed_measured (g.S.Value.Fields.has_trees c.get-item.result) (g.S.Value.Fields.fails c.get-item.result) g.S.Value.Fields.size c.untrimmed.result
    (g.met.S.Value.Fields.settled c.get-item.result) c.untrimmed.ensures.returned c.untrimmed.ensures.found c.untrimmed.ensures.exact)) in
    let was : c.from_residual.result ≡ Err c.in_err-own.field-0.0 = search rules in
    subst (λ (x : Result TreeWords Error). MeasuresElements (g.S.StructSource.words c.args.items.now) (g.S.StructSource.has_trees c.args.items.now) (g.S.StructSource.fails c.args.items.now) false g.S.Value.Element.data_words (g.S.StructSource.items c.args.items.now) x) (sym was)
    (structs_measuring_fails (g.S.StructSource.words c.args.items.now) (g.S.StructSource.has_trees c.args.items.now) (g.S.StructSource.fails c.args.items.now) false g.S.Value.Element.data_words g.S.Value.Fields.size (g.S.StructSource.items c.args.items.now) c.loop-index.index _ c.get-item.ensures.0 c.in_err-own.field-0.0 (omega (arith, c.loop-index-test.true, c.len-count.ensures)) c.get-item.ensures.1 m
    c.loop-index.invariant)

pub returns : goal.returns
returns g c = structs_measuring_ends (g.S.StructSource.words c.args.items.now) (g.S.StructSource.has_trees c.args.items.now) (g.S.StructSource.fails c.args.items.now) false g.S.Value.Element.data_words g.S.Value.Fields.size (g.S.StructSource.items c.args.items.now) c.loop-index.index _ (omega (arith, c.loop-index-test.false)) c.loop-index.invariant
