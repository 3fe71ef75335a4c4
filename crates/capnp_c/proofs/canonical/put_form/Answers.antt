-- What was written, or why it was not.
use Rattle.std.proofs.Common.{refl, ap, ◌∙◌, arith, rules}
use Rattle.capnp_frame.specs.Prelude.{kind_number}
use Rattle.capnp_c.specs.Fronts.{root_by}
use Rattle.capnp_c.proofs.UniqueCanonicalFormOutcomeLemmas.{has_or_error, one_size, form_fits, form_is_short, form_error_is}
use Rattle.capnp_c.proofs.canonical.put_form.Goals as goal

pub returns-in-Ok : goal.returns-in-Ok
returns-in-Ok c = record {
  form = λ segments rest front done. c.in-Ok.ensures.form segments rest front;
  short = λ segments rest size front has short.
      absurd (omega (arith, short, (c.in-Ok.ensures.form segments rest front).0, one_size (root_by c.args.options segments) c.in-Ok.size size (c.in-Ok.ensures.size segments rest front) has));
  returns = record {
    accepted = λ segments rest size front has room. refl;
    errors = λ segments rest kind front form_error. absurd (has_or_error (root_by c.args.options segments) c.in-Ok.size kind (c.in-Ok.ensures.size segments rest front) form_error);
    unreadable = λ kind errors. absurd (c.in-Ok.ensures.exact kind errors);
  };
  stays = search rules;
}

pub returns-in-Err : goal.returns-in-Err
returns-in-Err c = record {
  form = search rules;
  short = λ segments rest size front has short.
      c.number.ensures ∙ ap kind_number (form_is_short (root_by c.args.options segments) _ size _ (c.in-Err.ensures.form_error segments rest front) has);
  returns = record {
    accepted = λ segments rest size front has room. absurd (form_fits (root_by c.args.options segments) _ size _ (c.in-Err.ensures.form_error segments rest front) has room);
    errors = λ segments rest kind front form_error. c.number.ensures ∙ ap kind_number (form_error_is (root_by c.args.options segments) _ _ kind (c.in-Err.ensures.form_error segments rest front) form_error);
    unreadable = λ kind errors. c.number.ensures ∙ ap kind_number (c.in-Err.ensures.exact kind errors);
  };
  stays = search rules;
}
