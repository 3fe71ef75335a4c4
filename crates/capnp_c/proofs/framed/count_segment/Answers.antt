-- The segment is the one of this number, where there is one.
use Rattle.std.proofs.Common.{sym, ap, ◌∙◌, rules}
use Rattle.std.specs.Prelude.{option_copied}
use Rattle.capnp_frame.specs.Prelude.{kind_number}
use Rattle.capnp_c.proofs.UniqueFrontMessageLemmas.{one_front, segment_words, segment_there, returned_segment_is_there}
use Rattle.capnp_c.proofs.framed.count_segment.Goals as goal

pub returns-in-Some : goal.returns-in-Some
returns-in-Some c =
    let found = c.in-Ok.ensures.reads.found in
    let own = c.in-Ok.segments.segments in
    let here = sym c.get_segment.ensures ∙ ap option_copied c.in-Some.is in
    record {
      words_are = λ segments rest front done. segment_words segments own c.args.id c.in-Some.segment.now
          (one_front c.args.options c.args.bytes.now found.0 rest own segments found.1 front) here;
      accepted = search rules;
      none = λ segments rest front outside. absurd (segment_there segments own c.args.id c.in-Some.segment.now
          (one_front c.args.options c.args.bytes.now found.0 rest own segments found.1 front) here outside);
      errors = λ kind errors. absurd (c.in-Ok.ensures.reads.exact kind errors);
      stays = search rules;
    }

pub returns-in-None : goal.returns-in-None
returns-in-None c =
    let found = c.in-Ok.ensures.reads.found in
    let own = c.in-Ok.segments.segments in
    let none = sym c.get_segment.ensures ∙ ap option_copied c.in-None.is in
    record {
      words_are = search rules;
      accepted = λ segments rest front inside. absurd (returned_segment_is_there segments own c.args.id
          (one_front c.args.options c.args.bytes.now found.0 rest own segments found.1 front) none inside);
      none = search rules;
      errors = λ kind errors. absurd (c.in-Ok.ensures.reads.exact kind errors);
      stays = search rules;
    }

pub returns-in-Err : goal.returns-in-Err
returns-in-Err c = record {
  words_are = search rules;
  accepted = λ segments rest front inside. let never = c.in-Err.ensures.reads.accepted segments rest front in absurd (cc);
  none = λ segments rest front outside. let never = c.in-Err.ensures.reads.accepted segments rest front in absurd (cc);
  errors = λ kind errors. c.number-in-Err.ensures ∙ ap kind_number (c.in-Err.ensures.reads.exact kind errors);
  stays = search rules;
}
