-- What is written is the list in the form that is asked for.
use Rattle.std.proofs.Common.{ℕ, List, length, map, sym, arith}
use Rattle.std.proofs.lemmas.List.{length-map}
use Rattle.capnp_layout.specs.Prelude.{words_of}
use Rattle.capnp_layout.proofs.layouts.LayoutSizeLemmas.{length-body}
use Rattle.capnp_wire.proofs.layouts.CopyPlanFillsLayoutLemmas.{room_output}
use Rattle.capnp_values.proofs.struct_lists.StructListWriteLemmas.{list_place, list_even, structs_rooms, structs_many, struct_list_copied}
use Rattle.capnp_values.proofs.tagged.write_list.Goals as goal

pub kept_by_each-kept-requires : goal.kept_by_each-kept-requires
kept_by_each-kept-requires g c = c.requires.value.tree_is.few_pointers

pub write_tagged-requires-clause-place : goal.write_tagged-requires-clause-place
write_tagged-requires-clause-place g c =
    list_place (g.S.StructSource.words c.args.items.now) (g.S.StructSource.has_trees c.args.items.now) c.args.canonical g.S.Value.Element.data_words g.S.Value.Fields.size c.kept_by_each-kept.result.data_words c.kept_by_each-kept.result.pointers (g.met.S.StructSource.settled c.args.items.now) (g.S.StructSource.items c.args.items.now) c.args.next (length (words_of c.args.block.now))
    c.requires.value.trees c.requires.value.tree_is c.requires.value.rooms c.requires.value.fits c.kept_by_each-kept.ensures.words c.kept_by_each-kept.ensures.pointers

pub returns-clause-written : goal.returns-clause-written
returns-clause-written g c trees is =
    let l = list_place (g.S.StructSource.words c.args.items.now) (g.S.StructSource.has_trees c.args.items.now) c.args.canonical g.S.Value.Element.data_words g.S.Value.Fields.size c.kept_by_each-kept.result.data_words c.kept_by_each-kept.result.pointers (g.met.S.StructSource.settled c.args.items.now) (g.S.StructSource.items c.args.items.now) c.args.next (length (words_of c.args.block.now))
    c.requires.value.trees c.requires.value.tree_is c.requires.value.rooms c.requires.value.fits c.kept_by_each-kept.ensures.words c.kept_by_each-kept.ensures.pointers in
    let v = c.requires.value in
    let elements : List (List ℕ) = map (g.S.StructSource.words c.args.items.now) (g.S.StructSource.items c.args.items.now) in
    let even = list_even (g.S.StructSource.words c.args.items.now) (g.S.StructSource.has_trees c.args.items.now) g.S.Value.Element.data_words g.S.Value.Fields.size (g.S.StructSource.items c.args.items.now) v.trees v.tree_is v.rooms in
    let r = c.write_tagged.ensures.elements in
    struct_list_copied c.args.canonical g.S.Value.Element.data_words g.S.Value.Fields.size elements is.children trees _ c.args.next (length (g.S.StructSource.items c.args.items.now)) c.kept_by_each-kept.result.data_words c.kept_by_each-kept.result.pointers
    c.write_tagged.result.next c.write_tagged.result.pointer (words_of c.args.block.now) (words_of c.write_tagged.new.block) is.whole even (structs_many (g.S.StructSource.words c.args.items.now) (g.S.StructSource.has_trees c.args.items.now) g.S.Value.Fields.size (g.met.S.StructSource.settled c.args.items.now) (g.S.StructSource.items c.args.items.now) is.children is.children_is) (sym (length-map (g.S.StructSource.items c.args.items.now) (g.S.StructSource.words c.args.items.now)))
    (c.kept_by_each-kept.ensures.words is.children is.children_is) (c.kept_by_each-kept.ensures.pointers is.children is.children_is) (structs_rooms (g.S.StructSource.words c.args.items.now) (g.S.StructSource.has_trees c.args.items.now) g.S.Value.Element.data_words g.S.Value.Fields.size (g.met.S.StructSource.settled c.args.items.now) (g.S.StructSource.items c.args.items.now) trees is even) c.write_tagged.ensures.pointer
    (omega (arith, r.next_is l.elements.children l.elements.children_is, l.elements.fits)) (r.words_are is.children is.children_is) (r.next_is is.children is.children_is)

pub returns-clause-long : goal.returns-clause-long
returns-clause-long g c trees is =
    let v = c.requires.value in
    let even = list_even (g.S.StructSource.words c.args.items.now) (g.S.StructSource.has_trees c.args.items.now) g.S.Value.Element.data_words g.S.Value.Fields.size (g.S.StructSource.items c.args.items.now) v.trees v.tree_is v.rooms in
    length-body _ (room_output c.args.canonical trees (structs_rooms (g.S.StructSource.words c.args.items.now) (g.S.StructSource.has_trees c.args.items.now) g.S.Value.Element.data_words g.S.Value.Fields.size (g.met.S.StructSource.settled c.args.items.now) (g.S.StructSource.items c.args.items.now) trees is even))
