-- The text is the list of bytes that the pointer points to, before its last zero.
use Rattle.std.proofs.Common.{◌+◌, ◌≤◌, length, take, drop, refl, sym, subst, arith}
use Rattle.capnp_layout.specs.Prelude.{Form, nothing}
use Rattle.capnp_wire.specs.Prelude.{IsText, TextFormError}
use Rattle.capnp_c.specs.Entering.{pointer_among}
use Rattle.capnp_c.specs.Reading.{TakesOff, ShowsText}
use Rattle.capnp_c.specs.declared.reading.blobs.Blob.{Blob}
use Rattle.capnp_c.proofs.in_place.EnteredObjectReadLemmas.{entered_read, nothing_taken_off, nothing_within}
use Rattle.capnp_c.proofs.reading.blobs.text_at.Goals as goal

pub returns-in-Some : goal.returns-in-Some
returns-in-Some c =
    let bytes = c.args.bytes.now in
    let p = pointer_among c.args.segments.now c.args.reader.now c.args.pointer.now in
    let enters = rw c.in-Some.is at c.in_ok-entered.ensures in
    entered_read p c.args.segments.now.bytes.now c.in-Some.entered (λ (text : Blob) (form : Form). IsText form (take text.len (drop text.start bytes)))
    (λ (text : Blob). text.start + text.len ≤ length bytes) (λ (text : Blob). text.words_left)
    TextFormError c.text_of.result enters c.text_of.ensures

pub returns-in-None : goal.returns-in-None
returns-in-None c =
    let bytes = c.args.bytes.now in
    let p = pointer_among c.args.segments.now c.args.reader.now c.args.pointer.now in
    let none = rw c.in-None.is at c.in_ok-entered.ensures in
    subst (λ (text : Blob). ShowsText p bytes text.start text.len × TakesOff p text.words_left) (sym c.no_bytes.ensures)
    (((nothing, none, (refl, nothing_within p)), omega arith), nothing_taken_off p c.args.reader.now.words_left refl none)
