-- The first message is the next one of the new stream, and the second one the next of what that leaves.
use Rattle.std.proofs.Common.{Some}
use Rattle.capnp_frame.specs.declared.serialize.segment_table.Padding.TheVariants.{Zero}
use Rattle.capnp_frame.specs.declared.message.options.TheConstants.{DEFAULT_READER_OPTIONS}
use Rattle.capnp_frame.specs.Prelude.{default_limit}
use Rattle.capnp_uses.proofs.AppendedMessagesReadBackLemmas.{memory_only}
use Rattle.capnp.proofs.ReaderOutcomeByFormatRulesLemmas.{found_next}
use Rattle.capnp.proofs.SliceStreamReadToItsEndLemmas.{slice_reader_error}
use Rattle.capnp_uses.proofs.FirstTwoMessagesReadOutcomeLemmas.{reads_new, reads_second, none_at_all, fails_at_once, none_after, second_fails_after, both}
use Rattle.capnp_uses.proofs.streaming.first_two.Goals as goal

pub returns-in-None-clause-two : goal.returns-in-None-clause-two
returns-in-None-clause-two c =
    let stream = c.new-messages in
    let reads = reads_new _ _ _ stream.result _ _ c.args.format Zero DEFAULT_READER_OPTIONS _ c.in-None.ensures.steps stream.ensures.source stream.ensures.begins in
    none_at_all c.args.format c.args.stream.now _ reads.none

pub returns-in-Some-Err-clause-two : goal.returns-in-Some-Err-clause-two
returns-in-Some-Err-clause-two c =
    let stream = c.new-messages in
    let steps = rw c.in-Some-Err.field-0-is at c.in-Some-Err.ensures.steps in
    let reads = reads_new _ _ _ stream.result _ _ c.args.format Zero DEFAULT_READER_OPTIONS _ steps stream.ensures.source stream.ensures.begins in
    let kind = c.in-Some-Err.error.kind in
    fails_at_once c.args.format c.args.stream.now _ c.in-Some-Err.error reads.failed reads.end
    (slice_reader_error Zero c.args.format default_limit kind _ _ reads.failed reads.errors)
    (λ message rest here. memory_only kind (reads.accepted message rest (here.encoding, here.is_encoding, here.spelled) here.within) reads.failed)

pub returns-in-None-next-clause-two : goal.returns-in-None-next-clause-two
returns-in-None-next-clause-two c =
    let stream = c.new-messages in
    let first = rw c.in-Some-Ok.field-0-is at c.in-Some-Ok.ensures.steps in
    let second = reads_second _ _ _ stream.result _ _ _ _ c.args.format Zero DEFAULT_READER_OPTIONS _ first stream.ensures.source stream.ensures.begins c.in-None-next.ensures.steps in
    none_after c.args.format c.args.stream.now _ _ c.in-Some-Ok.first second.0 second.1.none

pub returns-in-Some-Err-next-clause-two : goal.returns-in-Some-Err-next-clause-two
returns-in-Some-Err-next-clause-two c =
    let stream = c.new-messages in
    let first = rw c.in-Some-Ok.field-0-is at c.in-Some-Ok.ensures.steps in
    let steps = rw c.in-Some-Err-next.field-0-is at c.in-Some-Err-next.ensures.steps in
    let second = reads_second _ _ _ stream.result _ _ _ _ c.args.format Zero DEFAULT_READER_OPTIONS _ first stream.ensures.source stream.ensures.begins steps in
    let kind = c.in-Some-Err-next.error.kind in
    second_fails_after c.args.format c.args.stream.now _ _ c.in-Some-Ok.first c.in-Some-Err-next.error second.0
    (slice_reader_error Zero c.args.format default_limit kind _ _ second.1.failed second.1.errors)
    (λ message rest here. memory_only kind (second.1.accepted message rest (here.encoding, here.is_encoding, here.spelled) here.within) second.1.failed)

pub returns-in-Some-Ok-next-clause-two : goal.returns-in-Some-Ok-next-clause-two
returns-in-Some-Ok-next-clause-two c =
    let stream = c.new-messages in
    let first = rw c.in-Some-Ok.field-0-is at c.in-Some-Ok.ensures.steps in
    let steps = rw c.in-Some-Ok-next.field-0-is at c.in-Some-Ok-next.ensures.steps in
    let second = reads_second _ _ _ stream.result _ _ _ _ c.args.format Zero DEFAULT_READER_OPTIONS _ first stream.ensures.source stream.ensures.begins steps in
    let follows = found_next Zero c.args.format default_limit _ (Some c.next.new.self.source.now) (Some c.next-2.new.self.source.now) second.1.within second.1.found in
    both c.args.format c.args.stream.now _ _ _ c.in-Some-Ok.first c.in-Some-Ok-next.second second.0 follows
