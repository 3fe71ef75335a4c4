-- The text is the elements of a list of bytes, before its last zero.
use Rattle.std.proofs.Common.{inl}
use Rattle.std.proofs.lemmas.Result.{err_from_is_err_and}
use Rattle.capnp_wire.proofs.views.EnteredObjectShownLemmas.{ends_with_zero, no_zero_at_end}
use Rattle.capnp_wire.proofs.text.reader.text_in.Goals as goal

pub returns-in_err-bytes : goal.returns-in_err-bytes
returns-in_err-bytes c =
    let p = err_from_is_err_and c.from_residual.result c.from_residual.ensures.1 in
    rw (p.1, p.2) (inl c.in_err-bytes.ensures)

pub returns-in-None : goal.returns-in-None
returns-in-None c = no_zero_at_end _ c.in_ok-bytes.bytes.now _ c.in_ok-bytes.ensures c.in-None.ensures c.from_kind.ensures

pub returns-in-Some : goal.returns-in-Some
returns-in-Some c = ends_with_zero _ c.in_ok-bytes.bytes.now c.in-Some.bytes.now c.in_ok-bytes.ensures c.in-Some.ensures
