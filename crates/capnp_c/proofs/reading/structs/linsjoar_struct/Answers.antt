-- What is read is what the pointer points to.
use Rattle.std.proofs.Common.{◌∙◌, ap, subst}
use Rattle.capnp_c.specs.Entering.{pointer_among}
use Rattle.capnp_c.proofs.in_place.FollowedPointerResultLemmas.{same_pointer, follows_none, follows_object, follows_error, readable}
use Rattle.capnp_wire.specs.Prelude.{TakesStruct}
use Rattle.capnp_wire.proofs.views.RejectedExcludesAcceptedLemmas.{struct_decides, struct_accepted}
use Rattle.capnp_c.specs.Reading.{ShowsStruct}
use Rattle.capnp_c.specs.declared.reading.place.LinsjoarPlace.{LinsjoarPlace}
use Rattle.capnp_c.specs.declared.reading.structs.LinsjoarStruct.{LinsjoarStruct}
use Rattle.capnp_c.proofs.reading.structs.linsjoar_struct.Goals as goal

abbrev empty : LinsjoarPlace → LinsjoarStruct
empty place = record { start = 0; data_len = 0; first = place; pointers = 0 }

pub returns-in_default : goal.returns-in_default
returns-in_default c = follows_none _ _ _ _ _ _ _ c.in_default.ensures (c.empty.ensures ∙ ap empty c.nowhere.ensures)

pub returns-in-Some-local_struct_at : goal.returns-in-Some-local_struct_at
returns-in-Some-local_struct_at c =
    let segments = c.in-Some.segments in
    let known = c.in-Some.ensures in
    let q = pointer_among segments c.args.reader.now c.args.pointer.now in
    let same = same_pointer segments c.args.reader.now c.args.bytes.now c.args.pointer.now known.1 known.2 known.3 in
    let shown = subst (λ b. ShowsStruct q b c.in-Some-local_struct_at.found.fields) known.2 c.in-Some-local_struct_at.ensures.0 in
    let read = shown.0 in
    follows_object _ _ _ _ _ _ _ c.in-Some-local_struct_at.found.words_left q struct_decides same known.0 shown c.in-Some-local_struct_at.ensures.1 (readable q TakesStruct read.shown.0 (struct_accepted q _ read) read.shown.1 read.shown.2.2)

pub returns-in-Ok : goal.returns-in-Ok
returns-in-Ok c =
    let segments = c.in-Some.segments in
    let known = c.in-Some.ensures in
    let q = pointer_among segments c.args.reader.now c.args.pointer.now in
    let same = same_pointer segments c.args.reader.now c.args.bytes.now c.args.pointer.now known.1 known.2 known.3 in
    let shown = subst (λ b. ShowsStruct q b c.in-Ok.found.fields) known.2 c.in-Ok.ensures.0 in
    let read = shown.0 in
    follows_object _ _ _ _ _ _ _ c.in-Ok.found.words_left q struct_decides same known.0 shown c.in-Ok.ensures.1 (readable q TakesStruct read.shown.0 (struct_accepted q _ read) read.shown.1 read.shown.2.2)

pub returns-in-Err : goal.returns-in-Err
returns-in-Err c =
    let segments = c.in-Some.segments in
    let known = c.in-Some.ensures in
    let q = pointer_among segments c.args.reader.now c.args.pointer.now in
    let same = same_pointer segments c.args.reader.now c.args.bytes.now c.args.pointer.now known.1 known.2 known.3 in
    rw c.number.ensures (follows_error _ _ _ _ _ _ _ c.in-Err.error.kind q struct_decides same known.0 c.in-Err.ensures (c.empty.ensures ∙ ap empty c.nowhere.ensures))
