-- The numbers, in exactly their words.
use Rattle.std.proofs.Common.{◌≡◌, ◌+◌, ◌-◌, ◌*◌, ◌∙◌, ℕ, List, map, length, ap, sym, arith}
use Rattle.std.proofs.lemmas.List.{length-map}
use Rattle.capnp_layout.specs.Prelude.{width, words_for, list_pointer}
use Rattle.capnp_layout.proofs.words.WordsOfBytesLemmas.{length-words_of}
use Rattle.capnp_wire.proofs.layouts.NullAndNumbersWrittenLemmas.{numbers_copied, as_output, tree_body_long}
use Rattle.capnp_values.specs.NumberLists.{IsNumberList}
use Rattle.capnp_values.proofs.numbers.NumberListAsWordsLemmas.{list_fits, list_room, numbers_put, block_part_long}
use Rattle.capnp_values.proofs.number_list.NumberListSetterInputOwned.write.Goals as goal

pub overflow_cast-count : goal.overflow_cast-count
overflow_cast-count g c = record { fits = omega (arith, (list_room g.N.PrimitiveElement.code g.N.PrimitiveElement.bits_of c.args.self.now.items.now c.args._canonical c.args.next _ c.requires.value).0) }

pub words_of_list-requires : goal.words_of_list-requires
words_of_list-requires g c = omega (arith, (list_room g.N.PrimitiveElement.code g.N.PrimitiveElement.bits_of c.args.self.now.items.now c.args._canonical c.args.next _ c.requires.value).0)

pub overflow_add-end : goal.overflow_add-end
overflow_add-end g c =
    let r = list_room g.N.PrimitiveElement.code g.N.PrimitiveElement.bits_of c.args.self.now.items.now c.args._canonical c.args.next _ c.requires.value in
    record { fits = omega (arith, r.1, c.words_of_list.ensures.words, c.requires.free.few) }

pub slice_bounds-put_numbers-end : goal.slice_bounds-put_numbers-end
slice_bounds-put_numbers-end g c =
    let r = list_room g.N.PrimitiveElement.code g.N.PrimitiveElement.bits_of c.args.self.now.items.now c.args._canonical c.args.next _ c.requires.value in
    omega (arith, r.1, c.words_of_list.ensures.words, length-words_of c.args.block.now)

pub put_numbers-requires-clause-fit : goal.put_numbers-requires-clause-fit
put_numbers-requires-clause-fit g c =
    let w = c.requires.value in
    list_fits g.N.PrimitiveElement.code (map g.N.PrimitiveElement.bits_of c.args.self.now.items.now) w.trees w.tree_is w.rooms

pub put_numbers-requires-clause-room : goal.put_numbers-requires-clause-room
put_numbers-requires-clause-room g c =
    let r = list_room g.N.PrimitiveElement.code g.N.PrimitiveElement.bits_of c.args.self.now.items.now c.args._canonical c.args.next _ c.requires.value in
    omega (arith, c.words_of_list.ensures.words, block_part_long c.args.next c.words_of_list.result c.args.block.now (omega (arith, r.1, c.words_of_list.ensures.words)))

pub returns-clause-written : goal.returns-clause-written
returns-clause-written g c trees is =
    let code = g.N.PrimitiveElement.code in
    let bits : List ℕ = map g.N.PrimitiveElement.bits_of c.args.self.now.items.now in
    let r = list_room g.N.PrimitiveElement.code g.N.PrimitiveElement.bits_of c.args.self.now.items.now c.args._canonical c.args.next _ c.requires.value in
    let same : length c.args.self.now.items.now ≡ length (map g.N.PrimitiveElement.bits_of c.args.self.now.items.now) = sym (length-map c.args.self.now.items.now g.N.PrimitiveElement.bits_of) in
    let size : 8 * (c.args.next + c.words_of_list.result) - 8 * c.args.next ≡ 8 * words_for (length c.args.self.now.items.now) (width g.N.PrimitiveElement.code) = omega (arith, c.words_of_list.ensures.words) in
    let long : length c.put_numbers.new.block ≡ 8 * words_for (length c.args.self.now.items.now) (width g.N.PrimitiveElement.code) =
    omega (arith, c.put_numbers.auto.block, c.words_of_list.ensures.words, block_part_long c.args.next c.words_of_list.result c.args.block.now (omega (arith, r.1, c.words_of_list.ensures.words))) in
    as_output c.args._canonical code bits trees _ c.args.next _ _ _ is.1
    (numbers_copied code bits _ c.args.next _ _ _
    (numbers_put code (length c.args.self.now.items.now) c.args.next _ bits c.args.block.now c.put_numbers.new.block same c.put_numbers.ensures long size (omega (arith, r.1)))
    (c.list_word.ensures ∙ ap (λ (k : ℕ). list_pointer (c.args.next - c.args.following) c.code.result k) same ∙ ap (λ (k : ℕ). list_pointer (c.args.next - c.args.following) k (length bits)) (c.code.ensures.code ∙ c.size.ensures))
    (omega (arith, c.words_of_list.ensures.words, ap (λ (k : ℕ). words_for k (width g.N.PrimitiveElement.code)) same)))

pub returns-clause-long : goal.returns-clause-long
returns-clause-long g c trees is =
    tree_body_long (IsNumberList g.N.PrimitiveElement.code (map g.N.PrimitiveElement.bits_of c.args.self.now.items.now)) c.args._canonical c.args.next _ (λ a b p q. p.1 ∙ sym q.1) c.requires.value trees is
