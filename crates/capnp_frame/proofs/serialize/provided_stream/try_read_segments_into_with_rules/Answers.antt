-- The message in the buffer is the one that is there.
use Rattle.std.proofs.Common.{◌≡◌, length, rules, ap}
use Rattle.std.proofs.lemmas.Result.{err_from_is_err_and}
use Rattle.capnp_frame.proofs.sources.ProvidedBufferReaderOutcomeLemmas.{reads_into, fails_into}
use Rattle.capnp_frame.proofs.serialize.provided_stream.try_read_segments_into_with_rules.Goals as goal

pub returns-in_err-info : goal.returns-in_err-info
returns-in_err-info g c =
    let reported = c.in_err-info.ensures.asks in
    let p = err_from_is_err_and c.from_residual.result c.from_residual.ensures.1 in
    rw (p.1, p.2) (fails_into c.args.rules.padding g.R.Read g.met.R.Read.lawful _ _ c.args.rules.limit_in_words (length c.args.buffer.now) _
    reported.errors reported.end reported.short reported.kinds reported.asked.failed reported.asked.advances)

pub returns : goal.returns
returns g c =
    let asks = c.in_ok-info.ensures.asks in
    let message = rw c.in-Some.is at c.in_ok-info.ensures.message in
    let long : length c.read_into.new.buffer ≡ length c.args.buffer.now = search rules in
    reads_into c.args.rules.padding g.R.Read g.met.R.Read.lawful _ _ c.args.rules.limit_in_words (length c.args.buffer.now) c.read_into.new.buffer
    c.in-Some.info.segments_count c.of_message.result.segments message.holds (ap (λ message. message.segments) c.of_message.ensures) long message.within message.found
    (λ few. (asks.short few).1) asks.asked.advances
