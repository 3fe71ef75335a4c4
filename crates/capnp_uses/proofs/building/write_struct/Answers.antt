-- The type has a struct of two words.
use Rattle.std.proofs.Common.{inl, inr, arith}
use Rattle.std.proofs.lemmas.Result.{err_from_is_err_and}
use Rattle.capnp_uses.proofs.building.write_struct.Goals as goal

pub returns-in_err-view-clause-errors : goal.returns-in_err-view-clause-errors
returns-in_err-view-clause-errors g c =
    let p = err_from_is_err_and c.from_residual.result c.from_residual.ensures.1 in
    rw (p.1, p.2) (elim (c.in_err-view.ensures.inits.kind) [ inl many ↦ absurd (omega (arith, many.0)) | inr room_error ↦ room_error ])
