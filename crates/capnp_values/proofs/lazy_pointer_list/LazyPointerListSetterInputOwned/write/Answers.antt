-- The pointers, and then what they point to.
use Rattle.std.proofs.Common.{◌+◌, ◌-◌, ◌∙◌, ℕ, length, sym, ap, arith}
use Rattle.capnp_layout.specs.Prelude.{words_of, list_pointer}
use Rattle.capnp_wire.proofs.layouts.ZeroFreePartLemmas.{free_later}
use Rattle.capnp_layout.proofs.layouts.LayoutSizeLemmas.{length-body}
use Rattle.capnp_wire.proofs.layouts.CopyPlanFillsLayoutLemmas.{room_output}
use Rattle.capnp_values.proofs.lists.ItemMeasureLemmas.{items_settled}
use Rattle.capnp_values.proofs.lists.PointerListMeasureLemmas.{values_total, values_rooms, values_begin, pointer_list_copied}
use Rattle.capnp_values.proofs.lazy_pointer_list.LazyPointerListSetterInputOwned.write.Goals as goal

pub write_items-requires-clause-room : goal.write_items-requires-clause-room
write_items-requires-clause-room g c = values_begin (g.S.ValueSource.has_tree c.args.self.now.source) (g.S.ValueSource.items c.args.self.now.source) c.args.canonical c.args.next _ c.requires.value

pub write_items-requires-clause-free : goal.write_items-requires-clause-free
write_items-requires-clause-free g c = free_later c.args.next (c.args.next + length (g.S.ValueSource.items c.args.self.now.source)) c.args.block.now (omega arith) c.requires.free

pub returns-clause-written : goal.returns-clause-written
returns-clause-written g c trees is =
    let h = (g.S.ValueSource.has_tree c.args.self.now.source) in
    let items = (g.S.ValueSource.items c.args.self.now.source) in
    let w = c.requires.value in
    let end = c.write_items.ensures.written.next_is w.tree_is.children w.tree_is.children_is in
    pointer_list_copied c.args.canonical is.children trees (c.args.next - c.args.following) c.args.next (length items) c.write_items.result c.list_word.result (words_of c.args.block.now) (words_of c.write_items.new.block)
    is.whole (sym (items_settled h items is.children is.children_is).many) (values_rooms h items trees is) (c.list_word.ensures ∙ ap (λ (k : ℕ). list_pointer (c.args.next - c.args.following) 6 k) c.len-count.ensures)
    (omega (arith, end, w.fits, values_total h items c.args.canonical w.trees w.tree_is))
    (c.write_items.ensures.written.words_are is.children is.children_is) (c.write_items.ensures.written.next_is is.children is.children_is)

pub returns-clause-long : goal.returns-clause-long
returns-clause-long g c trees is =
    length-body _ (room_output c.args.canonical trees (values_rooms (g.S.ValueSource.has_tree c.args.self.now.source) (g.S.ValueSource.items c.args.self.now.source) trees is))
