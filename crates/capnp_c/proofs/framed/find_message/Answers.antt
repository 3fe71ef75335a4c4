-- A message that is there is found, and one that is cut or too large fails by its line.
use Rattle.std.proofs.Common.{length, ap, ◌∙◌, arith, rules, length-append}
use Rattle.capnp_frame.specs.Prelude.{kind_number, table_size}
use Rattle.capnp_c.proofs.framed.find_message.Goals as goal

pub returns-in-Ok : goal.returns-in-Ok
returns-in-Ok c =
    let left = c.from_slice.new.slice.now in
    let front = c.in-Ok.ensures.found in
    record {
      found = λ zero. (
        c.in-Ok.segments.segments,
        left,
        front,
        c.len-count.ensures,
        ap table_size c.len-count.ensures,
        omega (arith, ap length front.spelled, length-append front.encoding left),
      );
      accepted = search rules;
      errors = λ kind errors. absurd (c.in-Ok.ensures.exact kind errors);
      stays = search rules;
    }

pub returns-in-Err : goal.returns-in-Err
returns-in-Err c = record {
  found = search rules;
  accepted = λ segments rest front. let never = c.in-Err.ensures.accepted segments rest front in absurd (cc);
  errors = λ kind errors. c.number.ensures ∙ ap kind_number (c.in-Err.ensures.exact kind errors);
  stays = search rules;
}
