-- What is written is the form of the message's root, at the front of the block.
use Rattle.std.proofs.Common.{◌≡◌, ◌*◌, inl, inr, length, subst, arith, length-take}
use Rattle.std.proofs.lemmas.Result.{err_from_is_err_and}
use Rattle.capnp_layout.specs.Prelude.{words_of}
use Rattle.capnp_wire.specs.Prelude.{IsCanonicalForm}
use Rattle.capnp_c.specs.Fronts.{root_by, RootHasForm, RootCanonicalFormError}
use Rattle.capnp_c.proofs.UniqueCanonicalFormOutcomeLemmas.{front_form}
use Rattle.capnp_c.proofs.canonical.written.Goals as goal

pub returns-in_err-arena-clause-form_error : goal.returns-in_err-arena-clause-form_error
returns-in_err-arena-clause-form_error c segments rest front = let never = c.in_err-arena.ensures.accepted segments rest front in absurd (cc)

pub returns-in_err-root-clause-form_error : goal.returns-in_err-root-clause-form_error
returns-in_err-root-clause-form_error c segments rest front =
    let p = err_from_is_err_and c.from_residual-in_err-root.result c.from_residual-in_err-root.ensures.1 in
    rw (p.1, p.2) (inl (subst (λ pointer. RootCanonicalFormError pointer c.in_err-root.field-0.0.kind) (c.in_ok-arena.ensures.front segments rest front) c.in_err-root.ensures.form_error))

pub returns-then-block-words-clause-form_error : goal.returns-then-block-words-clause-form_error
returns-then-block-words-clause-form_error c segments rest front = inr (
  c.in_ok-root.words,
  subst (λ pointer. RootHasForm pointer c.in_ok-root.words) (c.in_ok-arena.ensures.front segments rest front) c.in_ok-root.ensures.size,
  omega (arith, c.if-block-words.true),
  c.from_kind.ensures,
)

pub returns-clause-form : goal.returns-clause-form
returns-clause-form c segments rest front =
    let long : length c.write_form.new.bytes ≡ 8 * c.in_ok-root.words =
    omega (arith, c.write_form.ensures.len, length-take (8 * c.in_ok-root.words) c.args.block.now) in
    front_form (root_by c.args.options segments) (8 * c.in_ok-root.words) c.write_form.new.bytes _ long
    (subst (λ pointer. IsCanonicalForm pointer (words_of c.write_form.new.bytes)) (c.in_ok-arena.ensures.front segments rest front)
    (subst (λ pointer. IsCanonicalForm pointer (words_of c.write_form.new.bytes)) c.in_ok-root.ensures.root c.write_form.ensures.form))

pub returns-clause-size : goal.returns-clause-size
returns-clause-size c segments rest front = subst (λ pointer. RootHasForm pointer c.in_ok-root.words) (c.in_ok-arena.ensures.front segments rest front) c.in_ok-root.ensures.size

pub returns-in_err-arena-clause-exact : goal.returns-in_err-arena-clause-exact
returns-in_err-arena-clause-exact c kind errors =
    let p = err_from_is_err_and c.from_residual.result c.from_residual.ensures.1 in
    rw (p.1, p.2) (c.in_err-arena.ensures.exact kind errors)

pub returns-in_err-root-clause-exact : goal.returns-in_err-root-clause-exact
returns-in_err-root-clause-exact c kind errors = absurd (c.in_ok-arena.ensures.exact kind errors)

pub returns-then-block-words-clause-exact : goal.returns-then-block-words-clause-exact
returns-then-block-words-clause-exact c kind errors = absurd (c.in_ok-arena.ensures.exact kind errors)

pub returns-clause-exact : goal.returns-clause-exact
returns-clause-exact c kind errors = absurd (c.in_ok-arena.ensures.exact kind errors)
