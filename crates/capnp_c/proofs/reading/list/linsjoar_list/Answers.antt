-- What is read is what the pointer points to.
use Rattle.std.proofs.Common.{◌∙◌, ap, refl, subst}
use Rattle.capnp_c.specs.Entering.{pointer_among}
use Rattle.capnp_c.specs.ReadingLists.{FollowsKind}
use Rattle.capnp_c.specs.declared.reading.list.LinsjoarList.{LinsjoarList}
use Rattle.capnp_c.specs.declared.reading.place.LinsjoarPlace.{LinsjoarPlace}
use Rattle.capnp_c.proofs.in_place.ListByElementKindLemmas.{list_decides, list_taken, shown_with_code}
use Rattle.capnp_c.proofs.in_place.FollowedPointerResultLemmas.{same_pointer, follows_object, follows_error}
use Rattle.capnp_c.proofs.reading.list.linsjoar_list.Goals as goal

abbrev empty : LinsjoarPlace → LinsjoarList
empty place = record { start = 0; first = place; count = 0; step = 0; data_len = 0; pointers = 0; code = 0 }

pub returns-in-Some-local_list_at : goal.returns-in-Some-local_list_at
returns-in-Some-local_list_at c =
    let bytes = c.args.bytes.now in
    let known = c.in-Some-segments_in.ensures in
    let wanted = c.in-Some.wanted in
    let list = c.in-Some-local_list_at.found.list in
    let code = c.args.code in
    let q = pointer_among c.in-Some-segments_in.segments c.args.reader.now c.args.pointer.now in
    let same = same_pointer c.in-Some-segments_in.segments c.args.reader.now bytes c.args.pointer.now known.1 known.2 known.3 in
    let shown = c.in-Some-local_list_at.ensures.0 in
    subst (λ kind. FollowsKind kind c.args.reader.now (record c.args.reader.now { words_left = c.in-Some-local_list_at.found.words_left }) bytes c.args.pointer.now code (record list { code = code }) 0)
    c.in-Some.ensures
    (follows_object _ _ _ _ _ _ _ c.in-Some-local_list_at.found.words_left q (list_decides wanted) same known.0 (shown_with_code wanted q bytes list code shown, refl) c.in-Some-local_list_at.ensures.1
    (list_taken wanted q bytes list shown))

pub returns-in-Ok : goal.returns-in-Ok
returns-in-Ok c =
    let bytes = c.args.bytes.now in
    let known = c.in-Some-segments_in.ensures in
    let wanted = c.in-Some.wanted in
    let list = c.in-Ok.found.list in
    let code = c.args.code in
    let q = pointer_among c.in-Some-segments_in.segments c.args.reader.now c.args.pointer.now in
    let same = same_pointer c.in-Some-segments_in.segments c.args.reader.now bytes c.args.pointer.now known.1 known.2 known.3 in
    let shown = c.in-Ok.ensures.0 in
    subst (λ kind. FollowsKind kind c.args.reader.now (record c.args.reader.now { words_left = c.in-Ok.found.words_left }) bytes c.args.pointer.now code (record list { code = code }) 0)
    c.in-Some.ensures
    (follows_object _ _ _ _ _ _ _ c.in-Ok.found.words_left q (list_decides wanted) same known.0 (shown_with_code wanted q bytes list code shown, refl) c.in-Ok.ensures.1
    (list_taken wanted q bytes list shown))

pub returns-in-Err : goal.returns-in-Err
returns-in-Err c =
    let bytes = c.args.bytes.now in
    let known = c.in-Some-segments_in.ensures in
    let wanted = c.in-Some.wanted in
    let q = pointer_among c.in-Some-segments_in.segments c.args.reader.now c.args.pointer.now in
    let same = same_pointer c.in-Some-segments_in.segments c.args.reader.now bytes c.args.pointer.now known.1 known.2 known.3 in
    subst (λ kind. FollowsKind kind c.args.reader.now c.args.reader.now bytes c.args.pointer.now c.args.code c.empty.result c.number.result) c.in-Some.ensures
    (rw c.number.ensures (follows_error _ _ _ _ _ _ _ c.in-Err.error.kind q (list_decides wanted) same known.0 c.in-Err.ensures (c.empty.ensures ∙ ap empty c.nowhere.ensures)))
