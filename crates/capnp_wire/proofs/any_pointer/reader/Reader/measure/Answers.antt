-- A walk from the pointer counts the words of its tree.
use Rattle.std.proofs.Common.{Some, None, refl, sym, ◌∙◌}
use Rattle.std.proofs.lemmas.Result.{err_from_is_err_and}
use Rattle.capnp_wire.specs.Prelude.{pointer_of}
use Rattle.capnp_wire.proofs.walks.MeasuringWalkCountOrErrorLemmas.{walked_as, measures_nothing, walk_measures, walk_overflows, measuring_walk_fails}
use Rattle.capnp_wire.proofs.any_pointer.reader.Reader.measure.Goals as goal

pub returns-in_default-clause-returned : goal.returns-in_default-clause-returned
returns-in_default-clause-returned g c = (measures_nothing (pointer_of g.S.ReaderSegments.segments c.args.self.now) c.in_default.is, refl)

pub returns-in_err-walk-clause-returned : goal.returns-in_err-walk-clause-returned
returns-in_err-walk-clause-returned g c =
    let p = err_from_is_err_and c.from_residual.result c.from_residual.ensures.1 in
    let pointer = pointer_of g.S.ReaderSegments.segments c.args.self.now in
    let walk_error = rw (c.new-walk.ensures.left ∙ c.limit_in_words.ensures) at c.in_err-walk.ensures.errors in
    rw (p.1, p.2) (measuring_walk_fails pointer c.in-Some.place _ c.in-Some.is walk_error)

pub returns-in-Some-words-clause-returned : goal.returns-in-Some-words-clause-returned
returns-in-Some-words-clause-returned g c =
    let pointer = pointer_of g.S.ReaderSegments.segments c.args.self.now in
    let walked = walked_as pointer.message c.in-Some.place pointer.nesting _ pointer.limit _ _ (Some 0) _ (Some c.in-Some-words.word_count)
    (c.new-walk.ensures.left ∙ c.limit_in_words.ensures) c.new-walk.ensures.words (sym c.in-Some-words.ensures) c.in_ok-walk.ensures.found in
    (walk_measures pointer c.in-Some.place c.in-Some-words.word_count _ c.in-Some.is walked, refl)

pub returns-in-None-clause-returned : goal.returns-in-None-clause-returned
returns-in-None-clause-returned g c =
    let pointer = pointer_of g.S.ReaderSegments.segments c.args.self.now in
    let walked = walked_as pointer.message c.in-Some.place pointer.nesting _ pointer.limit _ _ (Some 0) _ None
    (c.new-walk.ensures.left ∙ c.limit_in_words.ensures) c.new-walk.ensures.words (sym c.in-None.ensures) c.in_ok-walk.ensures.found in
    walk_overflows pointer c.in-Some.place _ c.from_kind.result.kind c.in-Some.is walked c.from_kind.ensures
