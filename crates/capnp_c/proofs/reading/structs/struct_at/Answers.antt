-- The struct is the object that the pointer points to.
use Rattle.std.proofs.Common.{◌∙◌, refl, ap}
use Rattle.capnp_wire.specs.Prelude.{StructFormError}
use Rattle.capnp_wire.proofs.views.EnteredObjectShownLemmas.{other_than_struct}
use Rattle.capnp_c.specs.Entering.{pointer_among}
use Rattle.capnp_c.specs.declared.reading.place.LinsjoarPlace.{LinsjoarPlace}
use Rattle.capnp_c.specs.declared.reading.structs.LinsjoarStruct.{LinsjoarStruct}
use Rattle.capnp_c.proofs.in_place.EnteredObjectReadLemmas.{struct_there, no_struct_there, object_takes_off, nothing_taken_off, entered_rejects}
use Rattle.capnp_c.proofs.reading.structs.struct_at.Goals as goal

pub returns-in-Some-fields_of : goal.returns-in-Some-fields_of
returns-in-Some-fields_of c =
    let bytes = c.args.segments.now.bytes.now in
    let p = pointer_among c.args.segments.now c.args.reader.now c.args.pointer.now in
    let enters = rw c.in-Some.is at c.in_ok-entered.ensures in
    let read = c.in-Some-fields_of.ensures in
    (struct_there p bytes c.in-Some.entered read.0 c.in-Some-fields_of.fields enters read.1 read.2, object_takes_off p bytes c.in-Some.entered enters)

pub returns-in-None-fields_of : goal.returns-in-None-fields_of
returns-in-None-fields_of c =
    let p = pointer_among c.args.segments.now c.args.reader.now c.args.pointer.now in
    let enters = rw c.in-Some.is at c.in_ok-entered.ensures in
    let kind = c.from_kind.result.kind in
    entered_rejects p c.args.segments.now.bytes.now c.in-Some.entered StructFormError kind enters
    (other_than_struct c.in-Some.entered.object kind c.in-None-fields_of.ensures c.from_kind.ensures)

pub returns-in-None : goal.returns-in-None
returns-in-None c =
    let p = pointer_among c.args.segments.now c.args.reader.now c.args.pointer.now in
    let none = rw c.in-None.is at c.in_ok-entered.ensures in
    let nesting = ap (λ (f : LinsjoarStruct). f.first.nesting) c.empty.ensures ∙ ap (λ (place : LinsjoarPlace). place.nesting) c.nowhere_below.ensures in (
      no_struct_there p c.args.segments.now.bytes.now c.empty.result none (ap (λ (f : LinsjoarStruct). f.start) c.empty.ensures)
          (ap (λ (f : LinsjoarStruct). f.data_len) c.empty.ensures) (ap (λ (f : LinsjoarStruct). f.pointers) c.empty.ensures) nesting,
      nothing_taken_off p c.args.reader.now.words_left refl none,
    )
