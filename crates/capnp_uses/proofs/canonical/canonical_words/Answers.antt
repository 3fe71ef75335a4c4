-- The message that is canonicalized is the one that is there.
use Rattle.std.proofs.Common.{refl, subst, IfErr, ◌≡◌}
use Rattle.std.proofs.lemmas.Result.{err_from_is_err_and}
use Rattle.capnp_frame.specs.declared.error.ErrorKind.TheVariants.{OutOfMemory}
use Rattle.capnp_wire.specs.Block.{word_numbers}
use Rattle.capnp_message.specs.Canonical.{HasForm}
use Rattle.capnp_uses.proofs.SliceReadAndCanonicalizeOutcomeLemmas.{root_is_default, form_of_root, form_is_found, no_form_error, no_message_no_form}
use Rattle.capnp_uses.proofs.canonical.canonical_words.Goals as goal

pub returns-in_err-message : goal.returns-in_err-message
returns-in_err-message c =
    let p = err_from_is_err_and c.from_residual.result c.from_residual.ensures.1 in
    rw (p.1, p.2) (no_message_no_form _ c.args.bytes.now _ c.in_err-message.ensures.exact c.in_err-message.ensures.errors)

pub returns : goal.returns
returns c =
    let reader = c.in_ok-message.message in
    let own = root_is_default reader.segments.segments reader.segments.segments reader.options refl c.in_ok-message.ensures.options in
    record {
      is_found = form_is_found (λ words. word_numbers words.items) reader.segments.segments c.args.bytes.now c.canonicalize.result c.in_ok-message.ensures.found
          (form_of_root (λ words. word_numbers words.items) _ c.canonicalize.result _ _ own c.canonicalize.ensures.returned);
      form = λ message rest begins. form_of_root (λ words. word_numbers words.items) _ c.canonicalize.result _ _
          (root_is_default reader.segments.segments message reader.options (c.in_ok-message.ensures.exact message rest begins) c.in_ok-message.ensures.options)
          c.canonicalize.ensures.returned;
      found = λ message rest begins.
          subst (λ pointer. HasForm pointer → IfErr c.canonicalize.result (λ error. error.kind ≡ OutOfMemory))
          (root_is_default reader.segments.segments message reader.options (c.in_ok-message.ensures.exact message rest begins) c.in_ok-message.ensures.options)
          c.canonicalize.ensures.found;
      errors = no_form_error _ _ reader.segments.segments c.args.bytes.now _ c.canonicalize.result own
          c.in_ok-message.ensures.found c.canonicalize.ensures.returned;
    }
