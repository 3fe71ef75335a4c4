-- A message that is there is found, and one that is cut or too large fails by its line.
use Rattle.std.proofs.Common.{◌≡◌, ◌+◌, inr, length, refl, ap, ◌∙◌, arith, rules, length-append}
use Rattle.capnp_frame.specs.Prelude.{kind_number}
use Rattle.capnp_c.proofs.PackMessageIntoBufferLemmas.{front_table}
use Rattle.capnp_c.proofs.framed.step_over.Goals as goal

pub returns-in-Ok : goal.returns-in-Ok
returns-in-Ok c =
    let left = c.from_slice.new.slice.now in
    let front = c.in-Ok.ensures.found in
    let whole : length left + length front.encoding ≡ length c.args.bytes.now = omega (arith, ap length front.spelled, length-append front.encoding left) in
    let table = (front_table c.args.options c.args.bytes.now c.in-Ok.field-0.segments left front).1 in
    record {
      found = λ zero. inr (c.in-Ok.field-0.segments, left, front, omega (arith, whole));
      end = λ none. absurd (omega (arith, ap length none, table));
      accepted = λ segments rest there. (refl, omega (arith, table));
      errors = λ kind some errors. absurd (c.in-Ok.ensures.exact kind errors);
      stays = search rules;
    }

pub returns-in-Err : goal.returns-in-Err
returns-in-Err c = record {
  found = search rules;
  end = search rules;
  accepted = λ segments rest front. let never = c.in-Err.ensures.accepted segments rest front in absurd (cc);
  errors = λ kind some errors. c.number.ensures ∙ ap kind_number (c.in-Err.ensures.exact kind errors);
  stays = search rules;
}
