-- The bytes are the canonical form, and no more.
use Rattle.std.proofs.lemmas.Result.{err_from_is_err_and}
use Rattle.capnp_wire.proofs.canonical.canonical_bytes.Goals as goal

pub returns-in_err-words-clause-found : goal.returns-in_err-words-clause-found
returns-in_err-words-clause-found g c following has = let never = c.in_err-words.ensures.found following has in absurd (cc)

pub returns-in_err-words-clause-exact : goal.returns-in_err-words-clause-exact
returns-in_err-words-clause-exact g c kind words_error =
    let p = err_from_is_err_and c.from_residual.result c.from_residual.ensures.1 in
    rw (p.1, p.2) (c.in_err-words.ensures.exact kind words_error)

pub returns-in_err-bytes-clause-exact : goal.returns-in_err-bytes-clause-exact
returns-in_err-bytes-clause-exact g c kind words_error = absurd (c.in_ok-words.ensures.exact kind words_error)
