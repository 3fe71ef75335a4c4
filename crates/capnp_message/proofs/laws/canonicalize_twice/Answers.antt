-- The results of the calls are handed on.
use Rattle.std.proofs.Common.{◌∙◌, ap}
use Rattle.std.proofs.lemmas.Result.{err_from_is_err_and}
use Rattle.capnp_layout.specs.Prelude.{words_of}
use Rattle.capnp_message.proofs.IdempotentCanonicalFormLemmas.{one_form}
use Rattle.capnp_message.proofs.laws.canonicalize_twice.Goals as goal

pub returns-clause-same : goal.returns-clause-same
returns-clause-same g c =
    c.in_ok-is_canonical.ensures.same ∙ ap words_of c.deref.ensures.value ∙ one_form _ _ _ c.in_ok-segment.ensures.returned c.in_ok-words.ensures.returned

pub returns-in_err-words-clause-kinds : goal.returns-in_err-words-clause-kinds
returns-in_err-words-clause-kinds g c =
    let p = err_from_is_err_and c.from_residual.result c.from_residual.ensures.1 in
    rw (p.1, p.2) (rw c.new-reader.ensures at c.in_err-words.ensures.returned)
