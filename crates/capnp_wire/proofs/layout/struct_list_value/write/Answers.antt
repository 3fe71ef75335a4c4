-- A list of structs is written as a copy is: its tag and the data of its elements, then what their pointers
-- point to.
use Rattle.std.proofs.Common.{◌≡◌, ◌-◌, ◌+◌, ◌*◌, ◌≤◌, [], ◌∷◌, ℕ, refl, sym, ap, ◌∙◌, subst, length, arith}
use Rattle.capnp_layout.specs.Prelude.{words_of, Trees, message_of, pointer_places, output, list_pointer, put, kept_places}
use Rattle.capnp_wire.specs.Prelude.{CanCopy, IsCopied, structs_along}
use Rattle.capnp_layout.proofs.words.WordsOfBytesLemmas.{length-words_of}
use Rattle.capnp_wire.proofs.views.ListValueMeasureLemmas.{elements_children}
use Rattle.capnp_wire.proofs.views.ListValueWriteLemmas.{elements_opened, elements_written, same_list}
use Rattle.capnp_wire.proofs.layout.struct_list_value.write.Goals as goal

pub struct_word-tag-requires : goal.struct_word-tag-requires
struct_word-tag-requires g c =
    let m = message_of (g.S.ReaderSegments.segments c.args.source.now.segments.now) in
    let kept = c.output_elements-kept.ensures in
    let room : c.args.list.first.word + c.args.list.elements.count * (c.args.list.elements.size.data_words + c.args.list.elements.size.pointers) ≤ length (words_of c.args.list.segment.now) =
    omega (arith, c.requires.room, length-words_of c.args.list.segment.now) in
    (elements_opened c.requires.content room kept.size kept.count c.requires.value.1).few_elements

pub put_data_sections-requires-clause-room : goal.put_data_sections-requires-clause-room
put_data_sections-requires-clause-room g c =
    let m = message_of (g.S.ReaderSegments.segments c.args.source.now.segments.now) in
    let kept = c.output_elements-kept.ensures in
    let room : c.args.list.first.word + c.args.list.elements.count * (c.args.list.elements.size.data_words + c.args.list.elements.size.pointers) ≤ length (words_of c.args.list.segment.now) =
    omega (arith, c.requires.room, length-words_of c.args.list.segment.now) in
    let o = elements_opened c.requires.content room kept.size kept.count c.requires.value.1 in
    omega (arith, o.kept.fits, c.put_word.ensures.len)

pub list_word-requires-clause-count : goal.list_word-requires-clause-count
list_word-requires-clause-count g c =
    let m = message_of (g.S.ReaderSegments.segments c.args.source.now.segments.now) in
    let kept = c.output_elements-kept.ensures in
    let room : c.args.list.first.word + c.args.list.elements.count * (c.args.list.elements.size.data_words + c.args.list.elements.size.pointers) ≤ length (words_of c.args.list.segment.now) =
    omega (arith, c.requires.room, length-words_of c.args.list.segment.now) in
    let o = elements_opened c.requires.content room kept.size kept.count c.requires.value.1 in
    rw c.words-2.ensures.words o.few

pub copy_by_cursor-requires-clause-there : goal.copy_by_cursor-requires-clause-there
copy_by_cursor-requires-clause-there g c =
    let m = message_of (g.S.ReaderSegments.segments c.args.source.now.segments.now) in
    let kept = c.output_elements-kept.ensures in
    let room : c.args.list.first.word + c.args.list.elements.count * (c.args.list.elements.size.data_words + c.args.list.elements.size.pointers) ≤ length (words_of c.args.list.segment.now) =
    omega (arith, c.requires.room, length-words_of c.args.list.segment.now) in
    let o = elements_opened c.requires.content room kept.size kept.count c.requires.value.1 in
    let first = c.args.list.first in
    let size = c.args.list.elements.size in
    let to = c.output_elements-kept.result.size in
    let n = c.output_elements-kept.result.count in
    let at = kept_places first.segment first.word size.data_words size.pointers to.pointers n in
    let end : ℕ = c.args.to.next + (1 + n * (to.data_words + to.pointers)) in
    let end_is : c.args.to.next + 1 + c.words.result ≡ end = omega (arith, c.words.ensures.words) in
    let long : length (words_of c.put_data_sections.new.block) ≡ length (words_of c.args.block.now) = omega (arith, c.put_data_sections.ensures.len, c.put_word.ensures.len) in
    c.elements-cursor.ensures.can m (words_of c.args.list.segment.now) c.args.nesting c.args.source.now.canonical _ _
    (subst (λ (k : ℕ). CanCopy m at c.args.nesting c.args.source.now.canonical k (length (words_of c.put_data_sections.new.block))) (sym end_is)
    (subst (λ (k : ℕ). CanCopy m at c.args.nesting c.args.source.now.canonical end k) (sym long) o.kept))
    (elements_children m (words_of c.args.list.segment.now) first size to.pointers n c.requires.content kept.pointers) (omega (arith, c.words.ensures.words))

pub returns-clause-written : goal.returns-clause-written
returns-clause-written g c limit trees is =
    let m = message_of (g.S.ReaderSegments.segments c.args.source.now.segments.now) in
    let kept = c.output_elements-kept.ensures in
    let room : c.args.list.first.word + c.args.list.elements.count * (c.args.list.elements.size.data_words + c.args.list.elements.size.pointers) ≤ length (words_of c.args.list.segment.now) =
    omega (arith, c.requires.room, length-words_of c.args.list.segment.now) in
    let o = elements_opened c.requires.content room kept.size kept.count c.requires.value.1 in
    let first = c.args.list.first in
    let elements = c.args.list.elements in
    let size = elements.size in
    let w = c.requires.value.1 in
    let form = structs_along (words_of c.args.list.segment.now) first elements in
    let at = pointer_places first.segment first.word size.data_words size.pointers elements.count in
    let same = same_list form m at c.args.nesting c.requires.value.0 limit w.trees trees w.tree_is is in
    let gap : ℕ = c.args.to.next - c.args.to.following in
    let tagged = c.put_word.ensures.words ∙ ap (λ (tag : ℕ). put c.args.to.next (tag ∷ []) (words_of c.args.block.now)) c.struct_word-tag.ensures in
    let mid = rw c.words-step.ensures at c.put_data_sections.ensures.words in
    subst (λ (t : Trees). IsCopied (output c.args.source.now.canonical t) gap c.args.to.next (words_of c.args.block.now) (words_of c.copy_by_cursor.new.block)
    (record { pointer = c.list_word.result; next = c.copy_by_cursor.result })) same
    (elements_written o refl tagged mid (omega (arith, c.words.ensures.words)) (c.elements-cursor.ensures.copied m c.args.source.now.canonical _ _ _ _ c.copy_by_cursor.ensures.copied)
    (c.list_word.ensures ∙ ap (λ (k : ℕ). list_pointer gap 7 k) c.words-2.ensures.words))
