-- Each turn writes one more message, or ends the run.
use Rattle.std.proofs.Common.{rules, refl, inl, inr}
use Rattle.capnp_frame.proofs.sources.JoinedRequestPartsLemmas.{IfKnown-join, Advances-join, Fails-join, Grows-join}
use Rattle.capnp.proofs.StreamEndByRunResultLemmas.{writes_each}
use Rattle.capnp.proofs.ReaderOutcomeByFormatRulesLemmas.{reading_error}
use Rattle.capnp.proofs.RunOutputMessageByMessageLemmas.{HasWritten-next, written_next, all_written, most_written, failed_reading, failed_at_message, left_as_written, message_run_error}
use Rattle.capnp.proofs.streams.write_each_message.Goals as goal

pub returns-in-Ok-None : goal.returns-in-Ok-None
returns-in-Ok-None g c = writes_each
    (all_written c.args.rules.padding c.args.format c.args.rules.limit_in_words
    (g.M.MessageWriter.writes c.args.writer.now g.W.Write.appends) (g.M.MessageWriter.writing_errors c.args.writer.now g.W.Write.appends g.W.Write.leaves g.W.Write.refuses) c.loop-message.message _ _ _ _ _ _
    c.loop-message.invariant.written (rw c.in-Ok-None.field-0-is at c.in-Ok-None.ensures.none) c.read_next.ensures.advances.tail refl)
    tt tt (Advances-join _ _ _ (g.met.R.Read.keeps.transitive _ _ _) c.loop-message.invariant.advances c.read_next.ensures.advances) c.loop-message.invariant.grows

pub returns-in-Err : goal.returns-in-Err
returns-in-Err g c = writes_each
    (failed_reading c.args.rules.padding c.args.format c.args.rules.limit_in_words
    (g.M.MessageWriter.writes c.args.writer.now g.W.Write.appends) (g.M.MessageWriter.writing_errors c.args.writer.now g.W.Write.appends g.W.Write.leaves g.W.Write.refuses)
    (record { message = c.loop-message.message; error = c.in-Err.error }) _ _ _ _ _ _
    c.loop-message.invariant.written
    (reading_error c.args.rules.padding c.args.format c.args.rules.limit_in_words c.in-Err.error.kind _ _ c.in-Err.ensures.errors) refl)
    (inl c.in-Err.ensures.kinds)
    (λ device. inl (Fails-join _ _ _ c.loop-message.invariant.advances.counted (c.in-Err.ensures.failed device)))
    (Advances-join _ _ _ (g.met.R.Read.keeps.transitive _ _ _) c.loop-message.invariant.advances c.read_next.ensures.advances) c.loop-message.invariant.grows

pub returns-in-Err-write_message : goal.returns-in-Err-write_message
returns-in-Err-write_message g c =
    let writing_errors = g.M.MessageWriter.writing_errors c.args.writer.now g.W.Write.appends g.W.Write.leaves g.W.Write.refuses in
    let reported = c.in-Err-write_message.ensures in
    let within = rw c.in-Ok-Some.field-0-is at c.in-Ok-Some.ensures.within in
    let whole = rw c.in-Ok-Some.field-0-is at c.in-Ok-Some.ensures.whole in
    writes_each
    (failed_at_message c.args.rules.padding c.args.format c.args.rules.limit_in_words (g.M.MessageWriter.writes c.args.writer.now g.W.Write.appends) writing_errors
    (record { message = c.loop-message.message; error = c.in-Err-write_message.error }) c.in-Ok-Some.segments _ _ _ _ _ _ within whole
    c.loop-message.invariant.written (rw c.in-Ok-Some.field-0-is at c.in-Ok-Some.ensures.found) reported.errors reported.left
    (left_as_written g.W.Write.written writing_errors c.loop-message.message c.in-Ok-Some.segments c.in-Err-write_message.error.kind _ _ reported.untouched))
    (inr (message_run_error c.args.rules.limit_in_words writing_errors c.loop-message.message c.in-Ok-Some.segments _ within whole reported.errors))
    (λ device. inr (Fails-join _ _ _ c.loop-message.invariant.grows.counted (reported.failed device)))
    (Advances-join _ _ _ (g.met.R.Read.keeps.transitive _ _ _) c.loop-message.invariant.advances c.read_next.ensures.advances)
    (Grows-join _ _ _ (g.met.W.Write.keeps.transitive _ _ _) c.loop-message.invariant.grows c.write_message.ensures.grows)

pub loop-message-preserved : goal.loop-message-preserved
loop-message-preserved g c = record {
  written = IfKnown-join _ _ _ (HasWritten-next c.args.rules.padding c.args.format c.args.rules.limit_in_words
      (g.M.MessageWriter.writes c.args.writer.now g.W.Write.appends) c.loop-message.message _ _ _)
      c.loop-message.invariant.written
      (written_next c.args.rules.padding c.args.format c.args.rules.limit_in_words
      (g.M.MessageWriter.writes c.args.writer.now g.W.Write.appends) c.loop-message.message c.in-Ok-Some.segments _ _ _ _
      (rw c.in-Ok-Some.field-0-is at c.in-Ok-Some.ensures.within) (rw c.in-Ok-Some.field-0-is at c.in-Ok-Some.ensures.found) c.in-Ok.ensures.written);
  advances = Advances-join _ _ _ (g.met.R.Read.keeps.transitive _ _ _) c.loop-message.invariant.advances c.read_next.ensures.advances;
  grows = Grows-join _ _ _ (g.met.W.Write.keeps.transitive _ _ _) c.loop-message.invariant.grows c.write_message.ensures.grows;
}

pub returns : goal.returns
returns g c = writes_each
    (most_written c.args.rules.padding c.args.format c.args.rules.limit_in_words
    (g.M.MessageWriter.writes c.args.writer.now g.W.Write.appends) (g.M.MessageWriter.writing_errors c.args.writer.now g.W.Write.appends g.W.Write.leaves g.W.Write.refuses) _ _ _ _ _ c.loop-message.invariant.written (search rules))
    tt tt c.loop-message.invariant.advances c.loop-message.invariant.grows
