-- The form is its own canonical form, and canonical.
use Rattle.std.proofs.lemmas.Result.{err_from_is_err_and}
use Rattle.capnp_message.proofs.IdempotentCanonicalFormLemmas.{own_of, has_form, one_form, form_canonical}
use Rattle.capnp_message.proofs.laws.canonicalize_form.Goals as goal

pub returns-in_err-is_canonical-clause-kind : goal.returns-in_err-is_canonical-clause-kind
returns-in_err-is_canonical-clause-kind c =
    let own = own_of _ _ _ _ c.new-reader.ensures c.new.ensures c.requires.unlimited c.requires.form in
    let never = c.in_err-is_canonical.ensures.found own.0.trees own.0.tree_is in
    absurd (cc)

pub returns-in_err-words-clause-kind : goal.returns-in_err-words-clause-kind
returns-in_err-words-clause-kind c =
    let own = own_of _ _ _ _ c.new-reader.ensures c.new.ensures c.requires.unlimited c.requires.form in
    let p = err_from_is_err_and c.from_residual-in_err-words.result c.from_residual-in_err-words.ensures.1 in
    rw (p.1, p.2) (c.in_err-words.ensures.found (has_form _ _ own.0))

pub returns-clause-canonical : goal.returns-clause-canonical
returns-clause-canonical c =
    let own = own_of _ _ _ _ c.new-reader.ensures c.new.ensures c.requires.unlimited c.requires.form in
    c.in_ok-is_canonical.ensures.returned.1 (form_canonical _ _ own.0 own.1)

pub returns-clause-same : goal.returns-clause-same
returns-clause-same c =
    let own = own_of _ _ _ _ c.new-reader.ensures c.new.ensures c.requires.unlimited c.requires.form in
    one_form _ _ _ c.in_ok-words.ensures.returned own.0
