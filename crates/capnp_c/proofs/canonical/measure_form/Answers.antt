-- What was measured, or why it was not.
use Rattle.std.proofs.Common.{refl, ap, ◌∙◌, rules}
use Rattle.capnp_frame.specs.Prelude.{kind_number}
use Rattle.capnp_c.specs.Fronts.{root_by}
use Rattle.capnp_c.proofs.UniqueCanonicalFormOutcomeLemmas.{has_or_error, one_reason}
use Rattle.capnp_c.proofs.canonical.measure_form.Goals as goal

pub returns-in-Ok : goal.returns-in-Ok
returns-in-Ok c = record {
  size = λ segments rest front done. c.in-Ok.ensures.size segments rest front;
  returns = record {
    accepted = λ segments rest size front has room. refl;
    errors = λ segments rest kind front form_error. absurd (has_or_error (root_by c.args.options segments) c.in-Ok.size kind (c.in-Ok.ensures.size segments rest front) form_error);
    unreadable = λ kind errors. absurd (c.in-Ok.ensures.exact kind errors);
  };
  stays = search rules;
}

pub returns-in-Err : goal.returns-in-Err
returns-in-Err c = record {
  size = search rules;
  returns = record {
    accepted = λ segments rest size front has room. absurd (has_or_error (root_by c.args.options segments) size _ has (c.in-Err.ensures.form_error segments rest front));
    errors = λ segments rest kind front form_error. c.number.ensures ∙ ap kind_number (one_reason (root_by c.args.options segments) _ kind (c.in-Err.ensures.form_error segments rest front) form_error);
    unreadable = λ kind errors. c.number.ensures ∙ ap kind_number (c.in-Err.ensures.exact kind errors);
  };
  stays = search rules;
}
