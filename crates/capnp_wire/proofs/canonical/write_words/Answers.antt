-- The pointer and the body after it are the canonical form.
use Rattle.std.proofs.Common.{◌-◌, true, length, take, drop, arith, length-take, length-drop}
use Rattle.capnp_wire.specs.Prelude.{pointer_of, PointsToTree}
use Rattle.capnp_layout.proofs.words.PutBytesAsWordsLemmas.{length-word_numbers}
use Rattle.capnp_wire.proofs.layouts.NullAndNumbersWrittenLemmas.{has_room}
use Rattle.capnp_wire.proofs.forms.TargetWrittenInCanonicalFormLemmas.{words_form}
use Rattle.capnp_wire.proofs.canonical.write_words.Goals as goal

pub write_into-copied-requires-clause-value : goal.write_into-copied-requires-clause-value
write_into-copied-requires-clause-value g c =
    let words = c.args.words.now in
    let rest = take (length words - 1) (drop 1 words) in
    has_room (PointsToTree (pointer_of g.S.ReaderSegments.segments c.args.reader.now)) true c.requires.0 _ c.requires.1
    (omega (arith, c.requires.2, length-word_numbers rest, length-take (length words - 1) (drop 1 words), length-drop 1 words))

pub returns : goal.returns
returns g c =
    let words = c.args.words.now in
    words_form (pointer_of g.S.ReaderSegments.segments c.args.reader.now) c.write_into-copied.result c.word_of.result words _ c.write_into-copied.new.block c.word_of.ensures c.requires
    (omega (arith, c.requires.2, length-take (length words - 1) (drop 1 words), length-drop 1 words)) c.write_into-copied.ensures.written
