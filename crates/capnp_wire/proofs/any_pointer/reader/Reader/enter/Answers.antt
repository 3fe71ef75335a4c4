-- What a pointer points to is entered once it is counted against the traversal limit; the call fails
-- where no object is there or the limit is met.
use Rattle.std.proofs.Common.{inl, inr}
use Rattle.std.proofs.lemmas.Result.{err_from_is_err_and}
use Rattle.capnp_layout.specs.Prelude.{is_null as null_there}
use Rattle.capnp_wire.specs.Prelude.{nowhere, at_place, pointer_of}
use Rattle.capnp_wire.proofs.any_pointer.reader.Reader.enter.Goals as goal

pub returns-in_default-clause-found : goal.returns-in_default-clause-found
returns-in_default-clause-found g c = nowhere c.in_default.is

pub returns-in_err-object-clause-errors : goal.returns-in_err-object-clause-errors
returns-in_err-object-clause-errors g c =
    let p = err_from_is_err_and c.from_residual.result c.from_residual.ensures.1 in
    rw (p.1, p.2) (inl (c.in-Some.place, c.in-Some.is, c.in_err-object.ensures.errors))

pub returns-in_default-2-clause-found : goal.returns-in_default-2-clause-found
returns-in_default-2-clause-found g c =
    let word = rw c.in_default-2.is at c.in_ok-object.ensures.found in
    at_place c.in-Some.is (null_there word) (λ not. cc)

pub returns-in_err-traversed-clause-errors : goal.returns-in_err-traversed-clause-errors
returns-in_err-traversed-clause-errors g c =
    let p = err_from_is_err_and c.from_residual-in_err-traversed.result c.from_residual-in_err-traversed.ensures.1 in
    let pointer = pointer_of g.S.ReaderSegments.segments c.args.self.now in
    let found = rw c.in-Some-2.is at c.in_ok-object.ensures.found in
    rw (p.1, p.2) (inr ((_, at_place c.in-Some.is found.0.object (λ not. found.1), c.in_err-traversed.ensures.some), c.in_err-traversed.ensures.limited, c.in_err-traversed.ensures.kind))
