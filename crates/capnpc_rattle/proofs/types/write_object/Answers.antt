-- What is measured has room in a block of just its words, which is zero; with the pointer to it, it is its
-- layout.
use Rattle.std.proofs.Common.{◌≡◌, ◌∙◌, false, ap, arith}
use Rattle.capnp_wire.specs.Prelude.{words_of, pointer_of, Trees, total_words, Pointer, PointsToTree}
use Rattle.capnp_layout.proofs.words.WordsOfBytesLemmas.{length-words_of}
use Rattle.capnp_wire.proofs.layouts.ZeroFreePartLemmas.{free_block}
use Rattle.capnp_wire.proofs.layouts.NullAndNumbersWrittenLemmas.{has_room, whole_written}
use Rattle.capnp_wire.proofs.views.UniqueValueTreeAndMeasureLemmas.{one_there}
use Rattle.capnpc_rattle.proofs.types.write_object.Goals as goal

pub write-requires-clause-value : goal.write-requires-clause-value
write-requires-clause-value g c =
    let w = c.requires.words in
    let h : Trees → Type 0 = PointsToTree (pointer_of g.S.ReaderSegments.segments c.args.pointer.now) in
    has_room h false w.0 _ w.1 (omega (arith, w.2, length-words_of c.args.block.now))

pub write-requires-clause-free : goal.write-requires-clause-free
write-requires-clause-free g c =
    let w = c.requires.words in
    free_block c.args.block.now (omega (arith, w.2)) (omega (arith, w.1.few, w.2, length-words_of c.args.block.now)) c.requires.zero

pub returns : goal.returns
returns g c trees is =
    let w = c.requires.words in
    let p : Pointer = pointer_of g.S.ReaderSegments.segments c.args.pointer.now in
    let one : w.1.trees ≡ trees = one_there p.place p.message p.nesting p.limit w.1.trees trees w.1.tree_is is in
    let words : total_words w.1.trees ≡ total_words trees = ap total_words one in
    whole_written trees (words_of c.args.block.now) (words_of c.write.new.block) c.write.result
    (c.write.ensures.long trees is ∙ omega (arith, w.1.words_are, words, w.2, length-words_of c.args.block.now)) (c.write.ensures.written trees is)
