-- A list of structs has a tag, its elements and what these point to.
use Rattle.std.proofs.Common.{rules, ◌≡◌, ◌+◌, ◌*◌, ◌∙◌, ℕ, Err, Result, map, subst, sym, ap}
use Rattle.capnp_frame.specs.declared.error.Error.{Error}
use Rattle.capnp_values.specs.Measured.{MeasuresValue}
use Rattle.capnp_values.specs.StructLists.{IsStructListTree, StructListError, TooManyStructs}
use Rattle.capnp_values.specs.StructListPlaces.{AreDeclared}
use Rattle.capnp_wire.specs.declared.traits.TreeWords.{TreeWords}
use Rattle.capnp_values.proofs.struct_lists.StructListMeasureLemmas.{told, declared_size, declared_many, declared_kept, size_declared, elements_few, struct_list_measured, list_too_large, struct_list_error}
use Rattle.capnp_values.proofs.tagged.measure_list.Goals as goal

pub returns-in_err-elements_fit : goal.returns-in_err-elements_fit
returns-in_err-elements_fit g c =
    let d = g.S.Value.Element.data_words in
    let p = g.S.Value.Fields.size in
    let was : c.from_residual.result ≡ Err c.in_err-elements_fit.field-0.0 = search rules in
    subst (λ (x : Result TreeWords Error). MeasuresValue (λ t. IsStructListTree (g.S.StructSource.words c.args.items.now) (g.S.StructSource.has_trees c.args.items.now) d p (g.S.StructSource.items c.args.items.now) t) (λ k. StructListError (g.S.StructSource.has_trees c.args.items.now) (g.S.StructSource.fails c.args.items.now) d p (g.S.StructSource.items c.args.items.now) k) c.args.canonical x) (sym was)
    (list_too_large (g.S.StructSource.words c.args.items.now) (g.S.StructSource.has_trees c.args.items.now) (g.S.StructSource.fails c.args.items.now) c.args.canonical d p (g.S.StructSource.items c.args.items.now) c.in_err-elements_fit.field-0.0
    (subst (λ (k : ℕ). TooManyStructs k d p c.in_err-elements_fit.field-0.0.kind) c.len-count.ensures (declared_many c.len-count.result d p c.data_words-data_words.result c.count-pointers.result c.in_err-elements_fit.field-0.0.kind c.data_words-data_words.ensures c.count-pointers.ensures c.in_err-elements_fit.ensures)))

pub measure_elements-requires-clause-pointers : goal.measure_elements-requires-clause-pointers
measure_elements-requires-clause-pointers g c =
    let f = c.in_ok-elements_fit.ensures in
    let t = told c.len-count.result g.S.Value.Element.data_words g.S.Value.Fields.size c.data_words-data_words.result c.count-pointers.result c.data_words-data_words.ensures c.count-pointers.ensures f.0 f.1 f.2 f.3 in
    t.few_pointers

pub measure_elements-requires-clause-few : goal.measure_elements-requires-clause-few
measure_elements-requires-clause-few g c =
    let f = c.in_ok-elements_fit.ensures in
    let t = told c.len-count.result g.S.Value.Element.data_words g.S.Value.Fields.size c.data_words-data_words.result c.count-pointers.result c.data_words-data_words.ensures c.count-pointers.ensures f.0 f.1 f.2 f.3 in
    (subst (λ (k : ℕ). AreDeclared k g.S.Value.Element.data_words g.S.Value.Fields.size) c.len-count.ensures t).small

pub returns-in_err-children : goal.returns-in_err-children
returns-in_err-children g c =
    let f = c.in_ok-elements_fit.ensures in
    let t = told c.len-count.result g.S.Value.Element.data_words g.S.Value.Fields.size c.data_words-data_words.result c.count-pointers.result c.data_words-data_words.ensures c.count-pointers.ensures f.0 f.1 f.2 f.3 in
    let was : c.from_residual-in_err-children.result ≡ Err c.in_err-children.field-0.0 = search rules in
    subst (λ (x : Result TreeWords Error). MeasuresValue (λ t. IsStructListTree (g.S.StructSource.words c.args.items.now) (g.S.StructSource.has_trees c.args.items.now) g.S.Value.Element.data_words g.S.Value.Fields.size (g.S.StructSource.items c.args.items.now) t) (λ k. StructListError (g.S.StructSource.has_trees c.args.items.now) (g.S.StructSource.fails c.args.items.now) g.S.Value.Element.data_words g.S.Value.Fields.size (g.S.StructSource.items c.args.items.now) k) c.args.canonical x) (sym was)
    (struct_list_error (g.S.StructSource.words c.args.items.now) (g.S.StructSource.has_trees c.args.items.now) (g.S.StructSource.fails c.args.items.now) c.args.canonical g.S.Value.Element.data_words g.S.Value.Fields.size (g.S.StructSource.items c.args.items.now) c.measure_elements.result c.in_err-children.field-0.0 (subst (λ (k : ℕ). AreDeclared k g.S.Value.Element.data_words g.S.Value.Fields.size) c.len-count.ensures t) c.in_err-children.was c.measure_elements.ensures)

pub kept_by_each-kept-requires : goal.kept_by_each-kept-requires
kept_by_each-kept-requires g c =
    let f = c.in_ok-elements_fit.ensures in
    let t = told c.len-count.result g.S.Value.Element.data_words g.S.Value.Fields.size c.data_words-data_words.result c.count-pointers.result c.data_words-data_words.ensures c.count-pointers.ensures f.0 f.1 f.2 f.3 in
    t.few_pointers

pub with_tag-requires-clause-declared : goal.with_tag-requires-clause-declared
with_tag-requires-clause-declared g c =
    let f = c.in_ok-elements_fit.ensures in
    record { few_words = f.0; few_pointers = f.1; few = f.2; small = f.3 }

pub with_tag-requires-clause-kept : goal.with_tag-requires-clause-kept
with_tag-requires-clause-kept g c =
    let f = c.in_ok-elements_fit.ensures in
    let t = told c.len-count.result g.S.Value.Element.data_words g.S.Value.Fields.size c.data_words-data_words.result c.count-pointers.result c.data_words-data_words.ensures c.count-pointers.ensures f.0 f.1 f.2 f.3 in
    let a = c.in_ok-children.ensures.measured.returned in
    declared_kept c.len-count.result g.S.Value.Element.data_words g.S.Value.Fields.size c.data_words-data_words.result c.count-pointers.result c.kept_by_each-kept.result.data_words c.kept_by_each-kept.result.pointers c.data_words-data_words.ensures c.count-pointers.ensures t
    (size_declared c.args.canonical c.len-count.result g.S.Value.Element.data_words g.S.Value.Fields.size c.kept_by_each-kept.result.data_words c.kept_by_each-kept.result.pointers (map (g.S.StructSource.words c.args.items.now) (g.S.StructSource.items c.args.items.now)) a.0 t c.in_ok-children.ensures.even
    (c.kept_by_each-kept.ensures.words a.0 a.1) (c.kept_by_each-kept.ensures.pointers a.0 a.1))

pub with_tag-requires-clause-few : goal.with_tag-requires-clause-few
with_tag-requires-clause-few g c =
    let f = c.in_ok-elements_fit.ensures in
    let t = told c.len-count.result g.S.Value.Element.data_words g.S.Value.Fields.size c.data_words-data_words.result c.count-pointers.result c.data_words-data_words.ensures c.count-pointers.ensures f.0 f.1 f.2 f.3 in
    elements_few (g.S.StructSource.words c.args.items.now) (g.S.StructSource.has_trees c.args.items.now) (g.S.StructSource.fails c.args.items.now) c.args.canonical g.S.Value.Element.data_words g.S.Value.Fields.size c.len-count.result (g.met.S.StructSource.settled c.args.items.now) (g.S.StructSource.items c.args.items.now) c.in_ok-children.children c.in_ok-children.ensures c.len-count.ensures t.small

pub returns : goal.returns
returns g c =
    let f = c.in_ok-elements_fit.ensures in
    let t = told c.len-count.result g.S.Value.Element.data_words g.S.Value.Fields.size c.data_words-data_words.result c.count-pointers.result c.data_words-data_words.ensures c.count-pointers.ensures f.0 f.1 f.2 f.3 in
    struct_list_measured (g.S.StructSource.words c.args.items.now) (g.S.StructSource.has_trees c.args.items.now) (g.S.StructSource.fails c.args.items.now) c.args.canonical g.S.Value.Element.data_words g.S.Value.Fields.size c.kept_by_each-kept.result.data_words c.kept_by_each-kept.result.pointers (g.met.S.StructSource.settled c.args.items.now) (g.S.StructSource.items c.args.items.now) c.in_ok-children.children c.measure_elements.result
    c.with_tag.result.untrimmed c.with_tag.result.output (subst (λ (k : ℕ). AreDeclared k g.S.Value.Element.data_words g.S.Value.Fields.size) c.len-count.ensures t) c.in_ok-children.was c.measure_elements.ensures
    (record { words = c.kept_by_each-kept.ensures.words; pointers = c.kept_by_each-kept.ensures.pointers })
    (c.with_tag.ensures.untrimmed ∙ ap (λ (k : ℕ). 1 + k + c.in_ok-children.children.untrimmed) (declared_size c.len-count.result g.S.Value.Element.data_words g.S.Value.Fields.size c.data_words-data_words.result c.count-pointers.result c.data_words-data_words.ensures c.count-pointers.ensures t)
    ∙ ap (λ (k : ℕ). 1 + k * (g.S.Value.Element.data_words + g.S.Value.Fields.size) + c.in_ok-children.children.untrimmed) c.len-count.ensures)
    (c.with_tag.ensures.output ∙ ap (λ (k : ℕ). 1 + k * (c.kept_by_each-kept.result.data_words + c.kept_by_each-kept.result.pointers) + c.in_ok-children.children.output) c.len-count.ensures)
