-- A struct is its own words, and what its pointers point to.
use Rattle.std.proofs.Common.{◌+◌, ◌-◌, arith}
use Rattle.capnp_layout.specs.Prelude.{words_of}
use Rattle.capnp_wire.proofs.layouts.ZeroFreePartLemmas.{free_later}
use Rattle.capnp_layout.proofs.layouts.LayoutSizeLemmas.{length-body}
use Rattle.capnp_wire.proofs.layouts.CopyPlanFillsLayoutLemmas.{room_output}
use Rattle.capnp_values.proofs.structs.StructMeasureLemmas.{struct_small, struct_rooms, struct_place, struct_copied}
use Rattle.capnp_values.proofs.struct_value.StructValueSetterInputOwned.write.Goals as goal

pub kept-pointers-requires : goal.kept-pointers-requires
kept-pointers-requires g c = c.requires.value.tree_is.few_pointers

pub overflow_add-children-2 : goal.overflow_add-children-2
overflow_add-children-2 g c =
    let p = struct_place c.args.canonical c.args.self.now.words g.F.Fields.size (g.F.Fields.has_trees c.args.self.now.fields) c.args.next c.kept_data-data_words.result c.kept-pointers.result _ c.requires.value
    c.kept_data-data_words.ensures.value c.kept-pointers.ensures.kept in
    record { fits = omega (arith, p.first_fits, c.requires.free.few) }

pub write_sections-requires-clause-data : goal.write_sections-requires-clause-data
write_sections-requires-clause-data g c = omega (arith, c.kept_data-data_words.ensures.bound)

pub write_sections-requires-clause-place : goal.write_sections-requires-clause-place
write_sections-requires-clause-place g c =
    let p = struct_place c.args.canonical c.args.self.now.words g.F.Fields.size (g.F.Fields.has_trees c.args.self.now.fields) c.args.next c.kept_data-data_words.result c.kept-pointers.result _ c.requires.value
    c.kept_data-data_words.ensures.value c.kept-pointers.ensures.kept in
    record { can = p.can; before_it = omega arith }

pub write_sections-requires-clause-free : goal.write_sections-requires-clause-free
write_sections-requires-clause-free g c = free_later c.args.next (c.args.next + c.kept_data-data_words.result + c.kept-pointers.result) c.args.block.now (omega arith) c.requires.free

pub struct_word-requires-clause-words : goal.struct_word-requires-clause-words
struct_word-requires-clause-words g c = omega (arith, c.kept_data-data_words.ensures.bound, c.requires.value.tree_is.few_words)

pub struct_word-requires-clause-pointers : goal.struct_word-requires-clause-pointers
struct_word-requires-clause-pointers g c = omega (arith, c.kept-pointers.ensures.bound, c.requires.value.tree_is.few_pointers)

pub returns-clause-written : goal.returns-clause-written
returns-clause-written g c trees is =
    let w = c.requires.value in
    let size = g.F.Fields.size in
    let hs = g.F.Fields.has_trees c.args.self.now.fields in
    let words = c.args.self.now.words in
    let p = struct_place c.args.canonical c.args.self.now.words g.F.Fields.size (g.F.Fields.has_trees c.args.self.now.fields) c.args.next c.kept_data-data_words.result c.kept-pointers.result _ c.requires.value
    c.kept_data-data_words.ensures.value c.kept-pointers.ensures.kept in
    let end = c.write_sections.ensures.written.next_is w.tree_is.children w.tree_is.children_is in
    struct_copied c.args.canonical words is.children trees (c.args.next - c.args.following) c.args.next c.kept_data-data_words.result c.kept-pointers.result c.write_sections.result c.struct_word.result
    (words_of c.args.block.now) (words_of c.write_sections.new.block) is.whole c.kept_data-data_words.ensures.value (c.kept-pointers.ensures.kept is.children is.children_is)
    (struct_rooms words size hs trees (g.met.F.Fields.settled c.args.self.now.fields) is (struct_small words size hs w.trees w.tree_is w.rooms)) c.struct_word.ensures
    (omega (arith, end, p.first_fits)) (c.write_sections.ensures.written.words_are is.children is.children_is) (c.write_sections.ensures.written.next_is is.children is.children_is)

pub returns-clause-long : goal.returns-clause-long
returns-clause-long g c trees is =
    let w = c.requires.value in
    let size = g.F.Fields.size in
    let hs = g.F.Fields.has_trees c.args.self.now.fields in
    let words = c.args.self.now.words in
    length-body _ (room_output c.args.canonical trees (struct_rooms words size hs trees (g.met.F.Fields.settled c.args.self.now.fields) is (struct_small words size hs w.trees w.tree_is w.rooms)))
