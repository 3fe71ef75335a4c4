-- What is taken is null and lists of numbers, and other objects are rejected.
use Rattle.std.proofs.Common.{inl, inr}
use Rattle.std.proofs.lemmas.Result.{err_from_is_err_and}
use Rattle.capnp_wire.specs.Prelude.{pointer_of, IsObjectView}
use Rattle.capnp_wire.specs.declared.any_object.reader.Reader.TheVariants.{Null, Numbers}
use Rattle.capnp_uses.proofs.AnyNumbersShownOrRejectedLemmas.{no_numbers_read, any_numbers_read, others_form_error}
use Rattle.capnp_uses.proofs.any_numbers.Reader.read.Goals as goal

pub returns-in_err-object : goal.returns-in_err-object
returns-in_err-object g c =
    let e = err_from_is_err_and c.from_residual.result c.from_residual.ensures.1 in
    rw (e.1, e.2) (inl c.in_err-object.ensures.returned)

pub returns-in-Null : goal.returns-in-Null
returns-in-Null g c =
    let p = pointer_of g.S.ReaderSegments.segments c.args.reader.now in
    let view : IsObjectView g.S.ReaderSegments.segments p Null = rw c.in-Null.is at c.in_ok-object.ensures.returned in
    no_numbers_read p view.shown

pub returns-in-Numbers : goal.returns-in-Numbers
returns-in-Numbers g c =
    let p = pointer_of g.S.ReaderSegments.segments c.args.reader.now in
    let view : IsObjectView g.S.ReaderSegments.segments p (Numbers c.in-Numbers.numbers) = rw c.in-Numbers.is at c.in_ok-object.ensures.returned in
    any_numbers_read p _ _ view.shown

pub returns-in_default : goal.returns-in_default
returns-in_default g c =
    let p = pointer_of g.S.ReaderSegments.segments c.args.reader.now in
    inr (others_form_error g.S.ReaderSegments.segments p c.in_ok-object.object _ c.in_ok-object.ensures.returned c.in_default.not-Null c.in_default.not-Numbers c.from_kind.ensures)
