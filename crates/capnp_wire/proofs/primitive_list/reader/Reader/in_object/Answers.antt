-- The numbers are the elements of a list of numbers of this size.
use Rattle.std.proofs.Common.{◌≡◌, ℕ, refl, sym, subst}
use Rattle.std.proofs.lemmas.Result.{err_from_is_err_and}
use Rattle.capnp_layout.specs.Prelude.{words_of, numbers, elements}
use Rattle.capnp_wire.specs.Prelude.{NumbersFormError, IsNumbers, form_of}
use Rattle.capnp_wire.proofs.primitive_list.reader.Reader.in_object.Goals as goal

pub returns-in_err-list : goal.returns-in_err-list
returns-in_err-list g c =
    let p = err_from_is_err_and c.from_residual.result c.from_residual.ensures.1 in
    let kind = c.in_err-list.field-0.0.kind in
    rw (p.1, p.2) (subst (λ (code : ℕ). NumbersFormError code (form_of c.args.object.now) kind) c.size.ensures c.in_err-list.ensures)

pub returns : goal.returns
returns g c =
    let list = c.in_ok-list.list in
    let code = g.T.PrimitiveElement.code in
    let values = elements (words_of list.bytes.now) 0 code list.count in
    let form_is = subst (λ (code : ℕ). form_of c.args.object.now ≡ numbers code (elements (words_of list.bytes.now) 0 code list.count)) c.size.ensures c.in_ok-list.ensures.0 in
    subst (λ form. IsNumbers code form values) (sym form_is) (refl, refl)
