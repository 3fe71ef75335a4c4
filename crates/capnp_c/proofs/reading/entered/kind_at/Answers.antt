-- The kind is the one of the object that the pointer points to.
use Rattle.std.proofs.Common.{sym, refl}
use Rattle.std.proofs.lemmas.Bool.{false≢true}
use Rattle.std.proofs.lemmas.Result.{err_from_is_err_and}
use Rattle.capnp_layout.specs.Prelude.{nothing, words_of, is_null as null_there}
use Rattle.capnp_wire.specs.Prelude.{nowhere, at_place}
use Rattle.capnp_c.proofs.reading.entered.kind_at.Goals as goal

pub returns-in_default : goal.returns-in_default
returns-in_default c limit = (nothing, nowhere (sym c.in_default.ensures), (refl, refl))

pub returns-in_err-object : goal.returns-in_err-object
returns-in_err-object c limit =
    let p = err_from_is_err_and c.from_residual.result c.from_residual.ensures.1 in
    rw (p.1, p.2) (c.in-Some.place, sym c.in-Some.ensures, c.in_err-object.ensures.errors)

pub returns-in_default-2 : goal.returns-in_default-2
returns-in_default-2 c limit =
    let word = rw c.in_default-2.is at c.in_ok-object.ensures.found in
    (nothing, at_place (sym c.in-Some.ensures) (null_there word) (λ not. absurd (false≢true (sym not))), (refl, refl))

pub returns : goal.returns
returns c limit =
    let found = rw c.in-Some-2.is at c.in_ok-object.ensures.found in
    (_, at_place (sym c.in-Some.ensures) found.0.object (λ not. found.1), c.kind_of.ensures (words_of c.in-Some-2.object.segment.now) c.in-Some-2.object.start)
