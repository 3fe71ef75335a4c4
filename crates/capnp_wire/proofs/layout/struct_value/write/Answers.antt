-- A struct is written as a copy is: its own words, then what its pointers point to.
use Rattle.std.proofs.Common.{◌-◌, refl, subst, length, arith}
use Rattle.capnp_layout.specs.Prelude.{words_of, Trees, message_of, output}
use Rattle.capnp_wire.specs.Prelude.{IsCopied}
use Rattle.capnp_layout.proofs.words.WordsOfBytesLemmas.{length-words_of}
use Rattle.capnp_layout.specs.declared.object.Body.TheVariants.{Struct}
use Rattle.capnp_wire.proofs.layouts.CopyBeginsWithOwnWordsLemmas.{fewer_pointers}
use Rattle.capnp_wire.proofs.views.StructValueMeasureAndWriteLemmas.{struct_opened_as, struct_written, same_struct, struct_children}
use Rattle.capnp_wire.proofs.layout.struct_value.write.Goals as goal

pub put_data_words-requires-clause-fits : goal.put_data_words-requires-clause-fits
put_data_words-requires-clause-fits g c =
    let m = message_of (g.S.ReaderSegments.segments c.args.source.now.segments.now) in
    let w = c.requires.value.1 in
    let o = struct_opened_as m (words_of c.args.fields.segment.now) c.args.fields.start c.args.fields.size c.output_body-copied.result c.args.nesting c.requires.value.0 c.args.source.now.canonical c.args.to.next (length (words_of c.args.block.now))
    c.requires.content (omega (arith, c.requires.room, length-words_of c.args.fields.segment.now)) c.output_body-copied.ensures.body w in
    omega (arith, o.totals, w.fits)

pub copy_pointers-free-requires-clause-there : goal.copy_pointers-free-requires-clause-there
copy_pointers-free-requires-clause-there g c =
    let m = message_of (g.S.ReaderSegments.segments c.args.source.now.segments.now) in
    let o = struct_opened_as m (words_of c.args.fields.segment.now) c.args.fields.start c.args.fields.size c.output_body-copied.result c.args.nesting c.requires.value.0 c.args.source.now.canonical c.args.to.next (length (words_of c.args.block.now))
    c.requires.content (omega (arith, c.requires.room, length-words_of c.args.fields.segment.now)) c.output_body-copied.ensures.body c.requires.value.1 in
    rw c.put_data_words.ensures.len o.kept

pub returns-clause-written : goal.returns-clause-written
returns-clause-written g c limit trees is =
    let m = message_of (g.S.ReaderSegments.segments c.args.source.now.segments.now) in
    let w = c.requires.value.1 in
    let o = struct_opened_as m (words_of c.args.fields.segment.now) c.args.fields.start c.args.fields.size c.output_body-copied.result c.args.nesting c.requires.value.0 c.args.source.now.canonical c.args.to.next (length (words_of c.args.block.now))
    c.requires.content (omega (arith, c.requires.room, length-words_of c.args.fields.segment.now)) c.output_body-copied.ensures.body w in
    let same = same_struct m (words_of c.args.fields.segment.now) c.args.fields.start c.args.fields.size c.args.nesting c.requires.value.0 limit w.trees trees w.tree_is is in
    subst (λ (t : Trees). IsCopied (output c.args.source.now.canonical t) (c.args.to.next - c.args.to.following) c.args.to.next (words_of c.args.block.now) (words_of c.copy_pointers-free.new.block)
    (record { pointer = c.pointer_word.result; next = c.copy_pointers-free.result })) same
    (struct_written o refl c.put_data_words.ensures.words c.copy_pointers-free.ensures.copied c.pointer_word.ensures)

pub copy_pointers-free-requires-clause-content : goal.copy_pointers-free-requires-clause-content
copy_pointers-free-requires-clause-content g c =
    struct_children (message_of (g.S.ReaderSegments.segments c.args.source.now.segments.now)) (words_of c.args.fields.segment.now) c.args.fields.start c.args.fields.size _ c.requires.content
    (fewer_pointers (Struct c.args.fields.size) c.output_body-copied.result c.output_body-copied.ensures.narrower).0
