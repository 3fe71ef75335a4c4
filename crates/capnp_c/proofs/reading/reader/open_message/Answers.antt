-- The reader is the one of the message at the front.
use Rattle.std.proofs.Common.{refl, ap, ◌∙◌, arith, rules}
use Rattle.capnp_frame.specs.Prelude.{kind_number}
use Rattle.capnp_c.specs.Options.{limit_of_number}
use Rattle.capnp_c.proofs.in_place.FollowedPointerResultLemmas.{kind_positive}
use Rattle.capnp_c.proofs.in_place.OpenedReaderLemmas.{limit_back, room_there, opens_front}
use Rattle.capnp_c.proofs.in_place.SegmentsByGroupLemmas.{no_groups}
use Rattle.capnp_c.proofs.reading.reader.open_message.Goals as goal

pub begins_of-reader-requires-clause-room : goal.begins_of-reader-requires-clause-room
begins_of-reader-requires-clause-room c =
    room_there c.args.options c.args.bytes.now c.from_slice.new.slice.now c.in-Ok.segments.segments c.len-count.result c.in-Ok.ensures.found c.len-count.ensures

pub returns-then-count-gt-GROUP_LEN : goal.returns-then-count-gt-GROUP_LEN
returns-then-count-gt-GROUP_LEN c =
    let limit = ap limit_of_number c.unwrap_or-reader.ensures ∙ limit_back c.args.options.traversal_limit_in_words c.requires in
    opens_front _ _ _ _ _ c.in-Ok.ensures.found c.in-Ok.ensures.exact c.len-count.ensures c.begins_of-reader.ensures refl limit (search rules)

pub returns-else-count-gt-GROUP_LEN : goal.returns-else-count-gt-GROUP_LEN
returns-else-count-gt-GROUP_LEN c =
    let limit = ap limit_of_number c.unwrap_or-reader.ensures ∙ limit_back c.args.options.traversal_limit_in_words c.requires in
    let begins = no_groups c.len-count.result c.args.bytes.now (omega (arith, c.if-count-gt-GROUP_LEN.false)) in
    opens_front _ _ _ _ _ c.in-Ok.ensures.found c.in-Ok.ensures.exact c.len-count.ensures begins refl limit (search rules)

pub returns-in-Err : goal.returns-in-Err
returns-in-Err c = record {
  found = λ zero. absurd (omega (arith, zero, c.number.ensures, kind_positive c.in-Err.error.kind));
  accepted = λ segments rest front. let never = c.in-Err.ensures.accepted segments rest front in absurd (cc);
  errors = λ kind errors. c.number.ensures ∙ ap kind_number (c.in-Err.ensures.exact kind errors);
  stays = λ more. refl;
}
