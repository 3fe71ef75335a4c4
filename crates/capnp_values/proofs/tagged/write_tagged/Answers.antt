-- The tag, the elements, and then what these point to.
use Rattle.std.proofs.Common.{◌≡◌, ◌+◌, ◌-◌, ◌*◌, ◌∷◌, [], ◌∙◌, ℕ, List, length, subst, ap, arith}
use Rattle.capnp_layout.specs.Prelude.{words_of, put, list_pointer, struct_pointer}
use Rattle.capnp_layout.proofs.words.WordsOfBytesLemmas.{length-words_of}
use Rattle.capnp_wire.proofs.layouts.ZeroFreePartLemmas.{free_after}
use Rattle.capnp_values.specs.StructLists.{HasRoomForElements, AreElementsWritten}
use Rattle.capnp_values.proofs.tagged.write_tagged.Goals as goal

pub overflow_add-words : goal.overflow_add-words
overflow_add-words g c =
    let l = c.requires.place in
    record { fits = omega (arith, l.size.words_within, l.size.pointers_within, l.declared_is.few_words, l.declared_is.few_pointers) }

pub overflow_mul-words : goal.overflow_mul-words
overflow_mul-words g c = record { fits = omega (arith, c.requires.place.size.elements, ap (λ (k : ℕ). k * (c.args.kept.data_words + c.args.kept.pointers)) c.len-count.ensures) }

pub overflow_cast-kept : goal.overflow_cast-kept
overflow_cast-kept g c = record { fits = omega (arith, c.requires.place.size.words_within, c.requires.place.declared_is.few_words) }

pub overflow_cast-kept-2 : goal.overflow_cast-kept-2
overflow_cast-kept-2 g c = record { fits = omega (arith, c.requires.place.size.pointers_within, c.requires.place.declared_is.few_pointers) }

pub struct_word-tag-requires : goal.struct_word-tag-requires
struct_word-tag-requires g c = omega (arith, c.requires.place.declared_is.few, c.len-count.ensures)

pub put_word-requires : goal.put_word-requires
put_word-requires g c = omega (arith, c.requires.place.begin_within)

pub list_word-requires-clause-count : goal.list_word-requires-clause-count
list_word-requires-clause-count g c = omega (arith, c.requires.place.size.elements, ap (λ (k : ℕ). k * (c.args.kept.data_words + c.args.kept.pointers)) c.len-count.ensures)

pub write_elements-requires-clause-room : goal.write_elements-requires-clause-room
write_elements-requires-clause-room g c =
    let same : length (words_of c.args.block.now) ≡ length (words_of c.put_word.new.block) = omega (arith, c.put_word.ensures.len, length-words_of c.args.block.now, length-words_of c.put_word.new.block) in
    subst (λ (room : ℕ). HasRoomForElements (g.S.StructSource.words c.args.items.now) (g.S.StructSource.has_trees c.args.items.now) c.args.canonical c.args.kept.data_words c.args.kept.pointers g.S.Value.Element.data_words g.S.Value.Fields.size (g.S.StructSource.items c.args.items.now)
    (c.args.next + 1 + length (g.S.StructSource.items c.args.items.now) * (c.args.kept.data_words + c.args.kept.pointers)) room) same c.requires.place.elements

pub write_elements-requires-clause-free : goal.write_elements-requires-clause-free
write_elements-requires-clause-free g c =
    free_after c.args.next c.args.next _ (c.struct_word-tag.result ∷ []) c.args.block.now c.put_word.new.block c.put_word.ensures.words c.put_word.ensures.len (omega arith) (omega arith) (omega (arith, c.requires.place.begin_within))
    c.requires.free

pub returns-clause-elements : goal.returns-clause-elements
returns-clause-elements g c =
    let d : ℕ = c.args.kept.data_words in
    let m : ℕ = c.args.kept.pointers in
    let put_tag = c.put_word.ensures.words ∙ ap (λ (k : ℕ). put c.args.next (k ∷ []) (words_of c.args.block.now)) (c.struct_word-tag.ensures ∙ ap (λ (k : ℕ). struct_pointer k c.args.kept.data_words c.args.kept.pointers) c.len-count.ensures) in
    subst (λ (old : List ℕ). AreElementsWritten (g.S.StructSource.words c.args.items.now) (g.S.StructSource.has_trees c.args.items.now) c.args.canonical d m g.S.Value.Fields.size (g.S.StructSource.items c.args.items.now) (c.args.next + 1) (c.args.next + 1 + length (g.S.StructSource.items c.args.items.now) * (d + m)) old (words_of c.write_elements.new.block) c.write_elements.result) put_tag c.write_elements.ensures.written

pub returns-clause-pointer : goal.returns-clause-pointer
returns-clause-pointer g c = c.list_word.ensures ∙ ap (λ (k : ℕ). list_pointer (c.args.next - c.args.following) 7 (k * (c.args.kept.data_words + c.args.kept.pointers))) c.len-count.ensures
