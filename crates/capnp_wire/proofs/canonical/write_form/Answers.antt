-- The pointer and the body after it are the canonical form.
use Rattle.std.proofs.Common.{◌≡◌, ◌-◌, ◌*◌, ◌∙◌, ◌+◌, ℕ, List, true, length, take, drop, arith, length-take, length-drop}
use Rattle.capnp_wire.specs.Prelude.{pointer_of, PointsToTree}
use Rattle.capnp_layout.proofs.words.WordsOfBytesLemmas.{length-words_of}
use Rattle.capnp_wire.proofs.layouts.ZeroFreePartLemmas.{free_part, zero_part}
use Rattle.capnp_wire.proofs.layouts.NullAndNumbersWrittenLemmas.{has_room}
use Rattle.capnp_wire.proofs.forms.TargetWrittenInCanonicalFormLemmas.{whole_form}
use Rattle.capnp_wire.proofs.canonical.write_form.Goals as goal

-- the block after the pointer
children_long : (n : ℕ) (bytes : List ℕ) → length bytes ≡ 8 * (n + 1) → length (take (length bytes - 8) (drop 8 bytes)) ≡ length bytes - 8
children_long n bytes long = omega (arith, length-take (length bytes - 8) (drop 8 bytes), length-drop 8 bytes)

pub write-copied-requires-clause-value : goal.write-copied-requires-clause-value
write-copied-requires-clause-value g c =
    let w = c.requires.words in
    let bytes = c.args.bytes.now in
    has_room (PointsToTree (pointer_of g.S.ReaderSegments.segments c.args.reader.now)) true w.0 _ w.1
    (omega (arith, w.2, children_long w.0 bytes w.2, length-words_of (take (length bytes - 8) (drop 8 bytes))))

pub write-copied-requires-clause-free : goal.write-copied-requires-clause-free
write-copied-requires-clause-free g c =
    let w = c.requires.words in
    let bytes = c.args.bytes.now in
    free_part bytes 8 (length bytes - 8) (zero_part bytes 8 (length bytes - 8) c.requires.zero (omega (arith, w.2))) (omega (arith, w.2)) (omega (arith, w.2)) (omega (arith, w.2, w.1.few))

pub returns-clause-form : goal.returns-clause-form
returns-clause-form g c =
    let w = c.requires.words in
    whole_form (pointer_of g.S.ReaderSegments.segments c.args.reader.now) c.write-copied.result c.copy_from_slice.new.self c.args.bytes.now _ c.write-copied.new.block
    (c.copy_from_slice.ensures.after ∙ c.to_le_bytes.ensures) (omega (arith, c.write-copied.type_inv)) c.copy_from_slice.ensures.len w
    (omega (arith, c.write-copied.ensures.len, children_long w.0 c.args.bytes.now w.2)) (children_long w.0 c.args.bytes.now w.2) c.write-copied.ensures.written
