-- Each turn writes one more message.
use Rattle.std.proofs.Common.{arith}
use Rattle.std.proofs.lemmas.List.{take_all}
use Rattle.std.proofs.lemmas.Result.{err_from_is_err_and}
use Rattle.capnp_frame.proofs.sources.JoinedRequestPartsLemmas.{Grows-join}
use Rattle.capnp.specs.Prelude.{IsEncodingOf, AppendsMessage, FailsAtMessage, ErrorsAs}
use Rattle.capnp.proofs.MessageSequenceReadBackLemmas.{appended_next, writable_at, few_next}
use Rattle.capnp.proofs.FailedWriteAmongMessagesLemmas.{message_error_at, fails_at_message, fails_among}
use Rattle.capnp.proofs.streams.appended.write_messages.Goals as goal

pub write_message-requires : goal.write_message-requires
write_message-requires g c = writable_at g.S.ReaderSegments.segments c.args.messages.now c.loop-message.message-index c.message-item.result c.loop-message-test.true c.message-item.is c.requires

pub returns-in_err-write_message : goal.returns-in_err-write_message
returns-in_err-write_message g c =
    let W = g.W.Write in
    let p = err_from_is_err_and c.from_residual.result c.from_residual.ensures.1 in
    let reported = c.in_err-write_message.ensures in
    let segments = g.S.ReaderSegments.segments in
    rw (p.1, p.2) (record {
      encoding = λ plain. tt;
      written = tt;
      fails = fails_among segments (AppendsMessage c.args.format W.appends) (FailsAtMessage c.args.format W.appends W.leaves W.refuses) c.args.messages.now
          c.loop-message.message-index c.message-item.result _ _ _ _ c.loop-message-test.true c.message-item.is c.loop-message.invariant.written
          (fails_at_message W.written c.args.format W.appends W.leaves W.refuses (segments c.message-item.result) _ _ _ reported.errors reported.left reported.untouched);
      few = tt;
      errors = message_error_at segments (ErrorsAs c.args.format W.refuses) c.args.messages.now c.loop-message.message-index c.message-item.result _
          c.loop-message-test.true c.message-item.is reported.errors;
      failed = λ device. let fails = reported.failed device in let counted = c.loop-message.invariant.grows.counted in omega (arith, fails, counted);
      grows = Grows-join _ _ _ (g.met.W.Write.keeps.transitive _ _ _) c.loop-message.invariant.grows reported.grows;
    })

pub loop-message-preserved : goal.loop-message-preserved
loop-message-preserved g c =
    let reported = c.in_ok-write_message.ensures in
    let segments = g.S.ReaderSegments.segments in record {
      encoding = λ plain. appended_next segments (IsEncodingOf c.args.format) c.args.messages.now
          c.loop-message.message-index c.message-item.result _ _ _ c.loop-message-test.true c.message-item.is
          (c.loop-message.invariant.encoding plain) (reported.encoding plain);
      written = appended_next segments (AppendsMessage c.args.format g.W.Write.appends) c.args.messages.now
          c.loop-message.message-index c.message-item.result _ _ _ c.loop-message-test.true c.message-item.is
          c.loop-message.invariant.written reported.written;
      few = few_next segments c.args.messages.now c.loop-message.message-index c.message-item.result c.loop-message-test.true c.message-item.is
          c.loop-message.invariant.few reported.count.few;
      grows = Grows-join _ _ _ (g.met.W.Write.keeps.transitive _ _ _) c.loop-message.invariant.grows c.write_message.ensures.grows;
    }

pub returns : goal.returns
returns g c =
    let all = take_all c.loop-message.message-index c.args.messages.now c.loop-message-test.false in
    let kept = c.loop-message.invariant in
    record {
      encoding = λ plain. rw all at (kept.encoding plain);
      written = rw all at kept.written;
      fails = tt;
      few = rw all at kept.few;
      errors = tt;
      failed = tt;
      grows = kept.grows;
    }
