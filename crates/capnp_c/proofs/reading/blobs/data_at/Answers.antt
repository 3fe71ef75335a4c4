-- The bytes are the elements of the list that the pointer points to.
use Rattle.std.proofs.Common.{◌≡◌, ◌+◌, ◌≤◌, ℕ, List, length, take, drop, Result, Ok, Err, MatchResult, refl, sym, subst, arith}
use Rattle.capnp_frame.specs.declared.error.Error.{Error}
use Rattle.capnp_layout.specs.Prelude.{Form, numbers, nothing}
use Rattle.capnp_wire.specs.Prelude.{IsData, NumbersFormError, form_of}
use Rattle.capnp_c.specs.Entering.{pointer_among}
use Rattle.capnp_c.specs.Reading.{TakesOff, ShowsData}
use Rattle.capnp_c.specs.declared.reading.blobs.Blob.{Blob}
use Rattle.capnp_c.proofs.in_place.EnteredObjectReadLemmas.{entered_read, nothing_taken_off, nothing_within}
use Rattle.capnp_c.proofs.reading.blobs.data_at.Goals as goal

as_data : (form : Form) (bytes : List ℕ) (words_left : ℕ) (result : Result Blob Error)
    → MatchResult result (λ blob. (form ≡ numbers 2 (take blob.len (drop blob.start bytes))) × (blob.start + blob.len ≤ length bytes) × (blob.words_left ≡ words_left))
    (λ error. NumbersFormError 2 form error.kind)
    → MatchResult result (λ blob. IsData form (take blob.len (drop blob.start bytes)) × (blob.start + blob.len ≤ length bytes) × (blob.words_left ≡ words_left))
    (λ error. NumbersFormError 2 form error.kind)
as_data form bytes words_left (Ok blob) holds = (subst (λ f. IsData f (take blob.len (drop blob.start bytes))) (sym holds.0) (refl, refl), holds.1, holds.2)
as_data form bytes words_left (Err error) holds = holds

pub returns-in-Some : goal.returns-in-Some
returns-in-Some c =
    let bytes = c.args.bytes.now in
    let entered = c.in-Some.entered in
    let p = pointer_among c.args.segments.now c.args.reader.now c.args.pointer.now in
    let enters = rw c.in-Some.is at c.in_ok-entered.ensures in
    entered_read p c.args.segments.now.bytes.now entered (λ (blob : Blob) (form : Form). IsData form (take blob.len (drop blob.start bytes)))
    (λ (blob : Blob). blob.start + blob.len ≤ length bytes) (λ (blob : Blob). blob.words_left)
    (NumbersFormError 2) c.blob_of.result enters (as_data (form_of entered.object) bytes entered.words_left c.blob_of.result c.blob_of.ensures)

pub returns-in-None : goal.returns-in-None
returns-in-None c =
    let bytes = c.args.bytes.now in
    let p = pointer_among c.args.segments.now c.args.reader.now c.args.pointer.now in
    let none = rw c.in-None.is at c.in_ok-entered.ensures in
    subst (λ (blob : Blob). ShowsData p bytes blob.start blob.len × TakesOff p blob.words_left) (sym c.no_bytes.ensures)
    (((nothing, none, (refl, nothing_within p)), omega arith), nothing_taken_off p c.args.reader.now.words_left refl none)
