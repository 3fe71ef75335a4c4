-- What is read is what the pointer points to.
use Rattle.std.proofs.Common.{refl}
use Rattle.capnp_c.specs.Entering.{pointer_among}
use Rattle.capnp_c.proofs.in_place.FollowedPointerResultLemmas.{same_pointer, follows_none, follows_object, follows_error, readable}
use Rattle.capnp_wire.specs.Prelude.{TakesNumbers}
use Rattle.capnp_wire.proofs.views.RejectedExcludesAcceptedLemmas.{numbers_decide, data_accepted}
use Rattle.capnp_c.proofs.reading.blobs.linsjoar_data.Goals as goal

pub returns-in_default : goal.returns-in_default
returns-in_default c = follows_none _ _ _ _ _ _ _ c.in_default.ensures (refl, refl)

pub returns-in-Ok : goal.returns-in-Ok
returns-in-Ok c =
    let segments = c.in-Some.segments in
    let known = c.in-Some.ensures in
    let q = pointer_among segments c.args.reader.now c.args.pointer.now in
    let same = same_pointer segments c.args.reader.now c.args.bytes.now c.args.pointer.now known.1 known.2 known.3 in
    let shown = c.in-Ok.ensures.0 in
    let read = shown.0 in
    follows_object _ _ _ _ _ _ _ c.in-Ok.blob.words_left q (numbers_decide 2) same known.0 shown c.in-Ok.ensures.1 (readable q (TakesNumbers 2) read.0 (data_accepted q _ read) read.1 read.2.1)

pub returns-in-Err : goal.returns-in-Err
returns-in-Err c =
    let segments = c.in-Some.segments in
    let known = c.in-Some.ensures in
    let q = pointer_among segments c.args.reader.now c.args.pointer.now in
    let same = same_pointer segments c.args.reader.now c.args.bytes.now c.args.pointer.now known.1 known.2 known.3 in
    rw c.number.ensures (follows_error _ _ _ _ _ _ _ c.in-Err.error.kind q (numbers_decide 2) same known.0 c.in-Err.ensures (refl, refl))
