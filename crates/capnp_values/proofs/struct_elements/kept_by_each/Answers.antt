-- Untrimmed, all is kept; in canonical form, as much as some struct needs.
use Rattle.std.proofs.Common.{◌∙◌, Bool, List, ℕ, length, map, ap, sym, arith}
use Rattle.capnp_layout.specs.Prelude.{cut_zeros}
use Rattle.capnp_values.specs.StructLists.{element_data, element_pointers}
use Rattle.capnp_values.proofs.struct_lists.CanonicalElementSizeLemmas.{needing_begins, needing_goes_on, needing_ends}
use Rattle.capnp_values.proofs.struct_elements.kept_by_each.Goals as goal

pub loop-index-init : goal.loop-index-init
loop-index-init g c = needing_begins (g.S.StructSource.words c.args.items.now) (g.S.StructSource.has_trees c.args.items.now) g.S.Value.Fields.size (g.S.StructSource.items c.args.items.now)

pub loop-index-preserved : goal.loop-index-preserved
loop-index-preserved g c =
    needing_goes_on (g.S.StructSource.words c.args.items.now) (g.S.StructSource.has_trees c.args.items.now) g.S.Value.Fields.size (g.met.S.StructSource.settled c.args.items.now) (g.S.StructSource.items c.args.items.now) c.loop-index.index c.loop-index.kept.data_words c.loop-index.kept.pointers c.max.result c.max-in-loop-index.result c.used.result
    c.kept.result c.get-item.ensures.0 (omega (arith, c.loop-index-test.true, c.len-count.ensures)) c.get-item.ensures.1 (c.used.ensures ∙ ap (λ (l : List ℕ). length (cut_zeros l)) (c.words.ensures.value ∙ c.get-item.ensures.2)) (λ t is. c.kept.ensures.kept t (c.get-item.ensures.3.trees_are t is)) c.max.ensures c.max-in-loop-index.ensures
    c.loop-index.invariant

pub returns-clause-words : goal.returns-clause-words
returns-clause-words g c children is =
    let w = (g.S.StructSource.words c.args.items.now) in
    let n = needing_ends w (g.S.StructSource.has_trees c.args.items.now) g.S.Value.Fields.size (g.S.StructSource.items c.args.items.now) c.loop-index.index c.loop-index.kept.data_words c.loop-index.kept.pointers (omega arith) c.loop-index.invariant children is in
    n.0 ∙ ap (λ (k : Bool). element_data k g.S.Value.Element.data_words (map w (g.S.StructSource.items c.args.items.now))) (sym c.if-not-canonical.false)

pub returns-clause-pointers : goal.returns-clause-pointers
returns-clause-pointers g c children is =
    let w = (g.S.StructSource.words c.args.items.now) in
    let n = needing_ends w (g.S.StructSource.has_trees c.args.items.now) g.S.Value.Fields.size (g.S.StructSource.items c.args.items.now) c.loop-index.index c.loop-index.kept.data_words c.loop-index.kept.pointers (omega arith) c.loop-index.invariant children is in
    n.1 ∙ ap (λ (k : Bool). element_pointers k g.S.Value.Fields.size (map w (g.S.StructSource.items c.args.items.now)) children) (sym c.if-not-canonical.false)
