-- Each turn reads one more message. The reading stops where the bytes end, the reader fails, or it is out of memory.
use Rattle.std.proofs.Common.{◌≡◌, ◌∙◌, inr, [], ◌∷◌, length, map, ap, sym, arith, length-append}
use Rattle.std.proofs.lemmas.List.{length-map}
use Rattle.std.proofs.lemmas.Result.{err_from_is_err_and}
use Rattle.capnp_frame.specs.declared.error.ErrorKind.TheVariants.{DeviceFailed, OutOfMemory}
use Rattle.capnp_frame.specs.declared.serialize.segment_table.Padding.TheVariants.{Zero}
use Rattle.capnp_frame.proofs.sources.JoinedRequestPartsLemmas.{Fails-join}
use Rattle.capnp.proofs.MessageSequenceReadBackLemmas.{encodings_next, AllByRecursion-append-one}
use Rattle.capnp_uses.proofs.KnownBytesReadOutcomeLemmas.{reads_all, device_fails_after, fails_to_list, fails_past_full}
use Rattle.capnp_uses.proofs.devices.all_of_source.Goals as goal

pub loop-count-preserved : goal.loop-count-preserved
loop-count-preserved g c =
    let reads = rw c.in-Some.is at c.in_ok-message.ensures in
    record {
      encodings = encodings_next Zero c.args.format c.args.options.traversal_limit_in_words (λ reader. reader.segments) c.loop-count.messages.items
          c.push.new.self.items c.in-Some.message _ _ _ c.in_ok-push-in-Some.ensures.items c.loop-count.invariant.encodings (reads.encodings tt).found;
      options = AllByRecursion-append-one (λ reader. reader.options ≡ c.args.options) c.loop-count.messages.items c.push.new.self.items c.in-Some.message
          c.in_ok-push-in-Some.ensures.items c.loop-count.invariant.options reads.options_are;
      many = omega (arith, c.loop-count.invariant.many, ap length c.in_ok-push-in-Some.ensures.items, length-append c.loop-count.messages.items (c.in-Some.message ∷ []));
      counted = omega (arith, c.loop-count.invariant.counted, reads.reads.advances.counted);
    }

pub returns-in-None-clause-all : goal.returns-in-None-clause-all
returns-in-None-clause-all g c =
    let reads = rw c.in-None.is at c.in_ok-message.ensures in
    reads_all c.args.format c.args.options.traversal_limit_in_words (λ readers. map (λ reader. reader.segments) readers.items) c.loop-count.messages _ _
    c.loop-count.invariant.encodings reads.reads.none

pub returns-in_err-message-clause-all : goal.returns-in_err-message-clause-all
returns-in_err-message-clause-all g c =
    let p = err_from_is_err_and c.from_residual.result c.from_residual.ensures.1 in
    rw (p.1, p.2) (device_fails_after c.args.format c.args.options.traversal_limit_in_words _ c.in_err-message.field-0.0
    (map (λ reader. reader.segments) c.loop-count.messages.items) _ _ _ _ c.loop-count.invariant.encodings c.in_err-message.ensures.reads.end
    c.in_err-message.ensures.reads.errors)

pub returns-in_err-message-clause-failed : goal.returns-in_err-message-clause-failed
returns-in_err-message-clause-failed g c =
    let p = err_from_is_err_and c.from_residual.result c.from_residual.ensures.1 in
    rw (p.1, p.2) (λ device. Fails-join _ _ _ c.loop-count.invariant.counted (c.in_err-message.ensures.reads.failed device))

pub returns-in_err-push-in-Some-clause-all : goal.returns-in_err-push-in-Some-clause-all
returns-in_err-push-in-Some-clause-all g c =
    let p = err_from_is_err_and c.from_residual-in_err-push-in-Some.result c.from_residual-in_err-push-in-Some.ensures.1 in
    let reads = rw c.in-Some.is at c.in_ok-message.ensures in
    rw p.1 (fails_to_list c.args.format c.args.options.traversal_limit_in_words _ p.0 (map (λ reader. reader.segments) c.loop-count.messages.items)
    c.in-Some.message.segments _ _ _ c.loop-count.invariant.encodings (reads.encodings tt).found (inr p.2))

pub returns-clause-all : goal.returns-clause-all
returns-clause-all g c = fails_past_full c.args.format c.args.options.traversal_limit_in_words _ c.from_kind.result
    (map (λ reader. reader.segments) c.loop-count.messages.items) _ _ c.loop-count.invariant.encodings
    (omega (arith, length-map c.loop-count.messages.items (λ reader. reader.segments), c.loop-count.invariant.many, c.loop-count-test.false)) (inr c.from_kind.ensures)

pub returns-in_err-push-in-Some-clause-failed : goal.returns-in_err-push-in-Some-clause-failed
returns-in_err-push-in-Some-clause-failed g c =
    let p = err_from_is_err_and c.from_residual-in_err-push-in-Some.result c.from_residual-in_err-push-in-Some.ensures.1 in
    rw p.1 (λ device. let never : OutOfMemory ≡ DeviceFailed = sym p.2 ∙ device in cc)
