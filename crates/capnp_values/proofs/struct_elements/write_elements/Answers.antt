-- Each struct is written after those before it.
use Rattle.std.proofs.Common.{◌+◌, ◌*◌, ℕ, List, length, take, refl, sym, ap, arith, subst}
use Rattle.capnp_layout.specs.Prelude.{words_of, put}
use Rattle.capnp_values.specs.Fields.{AreFieldsWritten}
use Rattle.capnp_layout.proofs.words.WordsOfBytesLemmas.{length-words_of}
use Rattle.capnp_values.proofs.struct_lists.ElementWriteLemmas.{ElementsWritten, structs_writing_begins, next_struct_room, structs_writing_goes_on, structs_writing_ends}
use Rattle.capnp_values.proofs.values.LazyValueAsDeclaredLemmas.{fields_made, fields_declared}
use Rattle.capnp_values.proofs.struct_elements.write_elements.Goals as goal

pub overflow_add-width : goal.overflow_add-width
overflow_add-width g c = record { fits = omega (arith, c.requires.room.few_words) }

pub overflow_mul-next : goal.overflow_mul-next
overflow_mul-next g c = record { fits = omega (arith, ap (λ (k : ℕ). k * (c.args.kept.data_words + c.args.kept.pointers)) c.len-count.ensures, c.requires.room.fits, c.requires.free.few) }

pub overflow_add-next : goal.overflow_add-next
overflow_add-next g c = record { fits = omega (arith, ap (λ (k : ℕ). k * (c.args.kept.data_words + c.args.kept.pointers)) c.len-count.ensures, c.requires.room.fits, c.requires.free.few) }

pub loop-index-init : goal.loop-index-init
loop-index-init g c =
    let d : ℕ = c.args.kept.data_words in
    let m : ℕ = c.args.kept.pointers in
    let begin : ℕ = c.args.first + length (g.S.StructSource.items c.args.items.now) * (c.args.kept.data_words + c.args.kept.pointers) in
    subst (λ (k : ℕ). ElementsWritten (g.S.StructSource.words c.args.items.now) (g.S.StructSource.has_trees c.args.items.now) c.args.canonical d m g.S.Value.Fields.size (g.S.StructSource.items c.args.items.now) c.args.first begin 0 c.args.first (c.args.first + k * (d + m)) c.args.block.now c.args.block.now) (sym c.len-count.ensures)
    (structs_writing_begins (g.S.StructSource.words c.args.items.now) (g.S.StructSource.has_trees c.args.items.now) c.args.canonical d m g.S.Value.Element.data_words g.S.Value.Fields.size (g.S.StructSource.items c.args.items.now) c.args.first begin c.args.block.now c.requires.room refl c.requires.free)

pub write_sections-next-requires-clause-data : goal.write_sections-next-requires-clause-data
write_sections-next-requires-clause-data g c = c.requires.room.data_fits

pub write_sections-next-requires-clause-place : goal.write_sections-next-requires-clause-place
write_sections-next-requires-clause-place g c =
    let room = next_struct_room (g.S.StructSource.words c.args.items.now) (g.S.StructSource.has_trees c.args.items.now) c.args.canonical c.args.kept.data_words c.args.kept.pointers g.S.Value.Element.data_words g.S.Value.Fields.size (g.met.S.StructSource.settled c.args.items.now) (g.S.StructSource.items c.args.items.now) c.args.first _ c.loop-index.index c.loop-index.at c.loop-index.next (length (words_of c.args.block.now)) c.get-item.ensures.0 c.args.block.now
    c.loop-index.block c.requires.room (omega (arith, c.loop-index-test.true, c.len-count.ensures)) c.get-item.ensures.1 c.loop-index.invariant in
    record { can = fields_made c.get-item.ensures.3 c.args.canonical c.args.kept.pointers c.loop-index.next _ room.can; before_it = room.before_it }

pub write_sections-next-requires-clause-free : goal.write_sections-next-requires-clause-free
write_sections-next-requires-clause-free g c = c.loop-index.invariant.free_from

pub overflow_add-at : goal.overflow_add-at
overflow_add-at g c =
    let room = next_struct_room (g.S.StructSource.words c.args.items.now) (g.S.StructSource.has_trees c.args.items.now) c.args.canonical c.args.kept.data_words c.args.kept.pointers g.S.Value.Element.data_words g.S.Value.Fields.size (g.met.S.StructSource.settled c.args.items.now) (g.S.StructSource.items c.args.items.now) c.args.first _ c.loop-index.index c.loop-index.at c.loop-index.next (length (words_of c.args.block.now)) c.get-item.ensures.0 c.args.block.now
    c.loop-index.block c.requires.room (omega (arith, c.loop-index-test.true, c.len-count.ensures)) c.get-item.ensures.1 c.loop-index.invariant in
    record { fits = omega (arith, room.before_it, room.can.fits, c.loop-index.invariant.free_from.few) }

pub loop-index-preserved : goal.loop-index-preserved
loop-index-preserved g c =
    let d : ℕ = c.args.kept.data_words in
    let m : ℕ = c.args.kept.pointers in
    structs_writing_goes_on (g.S.StructSource.words c.args.items.now) (g.S.StructSource.has_trees c.args.items.now) c.args.canonical d m g.S.Value.Element.data_words g.S.Value.Fields.size (g.met.S.StructSource.settled c.args.items.now) (g.S.StructSource.items c.args.items.now) c.args.first _ c.loop-index.index c.loop-index.at c.loop-index.next c.write_sections-next.result (length (words_of c.args.block.now)) c.get-item.ensures.0
    c.args.block.now c.loop-index.block c.write_sections-next.new.block c.requires.room (omega (arith, ap (λ (l : List ℕ). length l) c.get-item.ensures.2, c.write_sections-next.ensures.wide, c.requires.room.data_fits)) (omega (arith, c.loop-index-test.true, c.len-count.ensures)) c.get-item.ensures.1 c.write_sections-next.ensures.len
    (omega (arith, c.write_sections-next.ensures.len, length-words_of c.write_sections-next.new.block, length-words_of c.loop-index.block)) c.write_sections-next.ensures.free (subst (λ (l : List ℕ). AreFieldsWritten (g.S.StructSource.has_trees c.args.items.now c.get-item.ensures.0) c.args.canonical (c.loop-index.at + d) m c.loop-index.next (put c.loop-index.at (take d l) (words_of c.loop-index.block)) (words_of c.write_sections-next.new.block) c.write_sections-next.result) c.get-item.ensures.2
    (fields_declared c.get-item.ensures.3 c.args.canonical (c.loop-index.at + d) m c.loop-index.next _ _ c.write_sections-next.result c.write_sections-next.ensures.written)) c.loop-index.invariant

pub returns-clause-written : goal.returns-clause-written
returns-clause-written g c = record { words_are = λ children is. (structs_writing_ends (g.S.StructSource.words c.args.items.now) (g.S.StructSource.has_trees c.args.items.now) c.args.canonical c.args.kept.data_words c.args.kept.pointers g.S.Value.Fields.size (g.S.StructSource.items c.args.items.now) c.args.first _ c.loop-index.index c.loop-index.at c.loop-index.next c.args.block.now c.loop-index.block (omega arith) c.loop-index.invariant children is).words_are; next_is = λ children is. (structs_writing_ends (g.S.StructSource.words c.args.items.now) (g.S.StructSource.has_trees c.args.items.now) c.args.canonical c.args.kept.data_words c.args.kept.pointers g.S.Value.Fields.size (g.S.StructSource.items c.args.items.now) c.args.first _ c.loop-index.index c.loop-index.at c.loop-index.next c.args.block.now c.loop-index.block (omega arith) c.loop-index.invariant children is).next_is }

pub returns-clause-len : goal.returns-clause-len
returns-clause-len g c = c.loop-index.invariant.long
