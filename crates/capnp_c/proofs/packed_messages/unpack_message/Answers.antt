-- What is unpacked is the framed encoding of the message that is there.
use Rattle.std.proofs.Common.{◌≡◌, length, rules, arith, ap, ◌∙◌, Some}
use Rattle.capnp_frame.specs.Prelude.{kind_number}
use Rattle.capnp_frame.proofs.sources.JoinedCallsAdvanceSourceLemmas.{never_fails}
use Rattle.capnp_c.proofs.UnpackMessageIntoBufferLemmas.{front_message, taken, none_found, own_kind, in_room}
use Rattle.capnp_c.proofs.packed_messages.unpack_message.Goals as goal

pub returns-in-Ok-Some : goal.returns-in-Ok-Some
returns-in-Ok-Some c =
    let reads = rw (c.in-Ok-Some.field-0-is, c.new-rules.ensures) at c.in-Ok-Some.ensures.reads in
    let encoding = rw c.in-Ok-Some.field-0-is at c.in-Ok-Some.ensures.encoding in
    let room = rw c.in-Ok-Some.field-0-is at c.in-Ok-Some.ensures.room in
    let long : length c.try_read_packed_framed_into.new.buffer ≡ length c.args.framed.now = search rules in
    record {
      unpacked = λ zero. let left = taken _ _ _ reads.found in
          (_, _, reads.found, front_message c.args.options _ _ _ encoding room reads.within, omega (arith, left));
      within = search rules;
      accepted = search rules;
      none = λ none room. absurd (none_found _ _ _ reads.found none);
      errors = λ kind left errors. absurd (reads.exact kind left (in_room c.args.options _ left kind _ _ long errors));
      stays = search rules;
    }

pub returns-in-Ok-None : goal.returns-in-Ok-None
returns-in-Ok-None c =
    let reads = rw (c.in-Ok-None.field-0-is, c.new-rules.ensures) at c.in-Ok-None.ensures.reads in
    let long : length c.try_read_packed_framed_into.new.buffer ≡ length c.args.framed.now = search rules in
    record {
      unpacked = search rules;
      within = search rules;
      accepted = λ segments rest is_found within room. absurd (none_found _ _ _ is_found reads.none);
      none = search rules;
      errors = λ kind left errors. absurd (reads.exact kind left (in_room c.args.options _ left kind _ _ long errors));
      stays = search rules;
    }

pub returns-in-Err : goal.returns-in-Err
returns-in-Err c =
    let reads = rw c.new-rules.ensures at c.in-Err.ensures.reads in
    let long : length c.try_read_packed_framed_into.new.buffer ≡ length c.args.framed.now = search rules in
    record {
      unpacked = search rules;
      within = search rules;
      accepted = λ segments rest is_found within room.
          absurd (never_fails c.in-Err.error.kind reads.failed (reads.accepted segments rest is_found within (search (rules, room))));
      none = λ none room. absurd (never_fails c.in-Err.error.kind reads.failed (reads.end (ap Some none) (search (rules, room))));
      errors = λ kind left errors.
          c.number-in-Err.ensures ∙ ap kind_number (own_kind c.in-Err.error.kind kind (reads.exact kind left (in_room c.args.options _ left kind _ _ long errors)) reads.failed);
      stays = search rules;
    }
