-- The list is the one that the pointer points to.
use Rattle.std.proofs.Common.{◌∙◌, refl, ap, subst}
use Rattle.capnp_c.specs.Entering.{pointer_among, Enters}
use Rattle.capnp_c.specs.ReadingLists.{ListFormError}
use Rattle.capnp_c.specs.declared.reading.list.LinsjoarList.{LinsjoarList}
use Rattle.capnp_c.specs.declared.reading.place.LinsjoarPlace.{LinsjoarPlace}
use Rattle.capnp_c.proofs.in_place.ListByElementKindLemmas.{null_list}
use Rattle.capnp_c.proofs.in_place.EnteredObjectReadLemmas.{object_takes_off, nothing_taken_off, entered_rejects}
use Rattle.capnp_c.proofs.reading.list.list_at.Goals as goal

pub returns-in-Some-elements_of : goal.returns-in-Some-elements_of
returns-in-Some-elements_of c =
    let p = pointer_among c.args.segments.now c.args.reader.now c.args.pointer.now in
    let there = rw c.in-Some.is at c.in_ok-entered.ensures in
    let enters = subst (λ b. Enters p b c.in-Some.entered) c.requires there in
    (c.in-Some-elements_of.ensures p enters, object_takes_off p c.args.bytes.now c.in-Some.entered enters)

pub returns-in-None-elements_of : goal.returns-in-None-elements_of
returns-in-None-elements_of c =
    let p = pointer_among c.args.segments.now c.args.reader.now c.args.pointer.now in
    let there = rw c.in-Some.is at c.in_ok-entered.ensures in
    let enters = subst (λ b. Enters p b c.in-Some.entered) c.requires there in
    entered_rejects p c.args.bytes.now c.in-Some.entered (ListFormError c.args.wanted) c.from_kind.result.kind enters
    (c.in-None-elements_of.ensures p enters, c.from_kind.ensures)

pub returns-in-None : goal.returns-in-None
returns-in-None c =
    let p = pointer_among c.args.segments.now c.args.reader.now c.args.pointer.now in
    let none = rw c.in-None.is at c.in_ok-entered.ensures in
    let nesting = ap (λ (l : LinsjoarList). l.first.nesting) c.empty.ensures ∙ ap (λ (place : LinsjoarPlace). place.nesting) c.nowhere_below.ensures in (
      null_list c.args.wanted p c.args.bytes.now c.empty.result none (ap (λ (l : LinsjoarList). l.count) c.empty.ensures) nesting,
      nothing_taken_off p c.args.reader.now.words_left refl none,
    )
