-- The bytes are the elements of a list of bytes.
use Rattle.std.proofs.Common.{refl, sym, subst}
use Rattle.std.proofs.lemmas.Result.{err_from_is_err_and}
use Rattle.capnp_wire.specs.Prelude.{IsData}
use Rattle.capnp_wire.proofs.data.reader.bytes_in.Goals as goal

pub returns-in_err-bytes : goal.returns-in_err-bytes
returns-in_err-bytes c =
    let p = err_from_is_err_and c.from_residual.result c.from_residual.ensures.1 in
    rw (p.1, p.2) c.in_err-bytes.ensures

pub returns : goal.returns
returns c =
    let bytes = c.in_ok-bytes.bytes.now in
    subst (λ form. IsData form bytes) (sym c.in_ok-bytes.ensures) (refl, refl)
