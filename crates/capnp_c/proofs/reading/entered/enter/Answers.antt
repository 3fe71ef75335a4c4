-- What a pointer points to is entered where its words are within what is left of the limit.
use Rattle.std.proofs.Common.{inl, inr, sym}
use Rattle.std.proofs.lemmas.Result.{err_from_is_err_and}
use Rattle.capnp_layout.specs.Prelude.{is_null as null_there}
use Rattle.capnp_wire.specs.Prelude.{nowhere, at_place}
use Rattle.capnp_c.proofs.reading.entered.enter.Goals as goal

pub returns-in_default : goal.returns-in_default
returns-in_default c = nowhere (sym c.in_default.ensures)

pub returns-in_err-object : goal.returns-in_err-object
returns-in_err-object c =
    let p = err_from_is_err_and c.from_residual.result c.from_residual.ensures.1 in
    rw (p.1, p.2) (inl (c.in-Some.place, sym c.in-Some.ensures, c.in_err-object.ensures.errors))

pub returns-in_default-2 : goal.returns-in_default-2
returns-in_default-2 c =
    let word = rw c.in_default-2.is at c.in_ok-object.ensures.found in
    at_place (sym c.in-Some.ensures) (null_there word) (λ not. cc)

pub returns-in_err-words_left : goal.returns-in_err-words_left
returns-in_err-words_left c =
    let p = err_from_is_err_and c.from_residual-in_err-words_left.result c.from_residual-in_err-words_left.ensures.1 in
    let found = rw c.in-Some-2.is at c.in_ok-object.ensures.found in
    rw (p.1, p.2) (inr ((_, at_place (sym c.in-Some.ensures) found.0.object (λ not. found.1), c.in_err-words_left.ensures.0), c.in_err-words_left.ensures.1))

pub begin_of-start-requires-clause-content : goal.begin_of-start-requires-clause-content
begin_of-start-requires-clause-content c =
    let found = rw c.in-Some-2.is at c.in_ok-object.ensures.found in
    found.0.content

pub begin_of-start-requires-clause-room : goal.begin_of-start-requires-clause-room
begin_of-start-requires-clause-room c =
    let found = rw c.in-Some-2.is at c.in_ok-object.ensures.found in
    found.0.room

pub returns : goal.returns
returns c =
    let found = rw c.in-Some-2.is at c.in_ok-object.ensures.found in
    record {
      object = record {
        place = c.in-Some.place;
        is_at = sym c.in-Some.ensures;
        object_is = found.0;
        nesting = found.1;
        within = c.in_ok-words_left.ensures.0;
      };
      within = c.begin_of-start.ensures.within;
      words = c.begin_of-start.ensures.words;
      left = c.in_ok-words_left.ensures.1;
      nesting = c.saturating_sub.ensures;
    }
