-- The words are the canonical form, and no more.
use Rattle.std.proofs.lemmas.Result.{err_from_is_err_and}
use Rattle.capnp_wire.proofs.canonical.canonical_words.Goals as goal

pub returns-in_err-size-clause-found : goal.returns-in_err-size-clause-found
returns-in_err-size-clause-found g c following has = let never = c.in_err-size.ensures.found following has in absurd (cc)

pub returns-in_err-size-clause-exact : goal.returns-in_err-size-clause-exact
returns-in_err-size-clause-exact g c kind words_error =
    let p = err_from_is_err_and c.from_residual.result c.from_residual.ensures.1 in
    rw (p.1, p.2) (c.in_err-size.ensures.exact kind words_error)

pub returns-in_err-words-clause-exact : goal.returns-in_err-words-clause-exact
returns-in_err-words-clause-exact g c kind words_error = absurd (c.in_ok-size.ensures.exact kind words_error)
