-- The framed encoding is in the buffer, with zero padding.
use Rattle.std.proofs.Common.{length, rules, arith, refl, sym, subst}
use Rattle.std.proofs.lemmas.Result.{err_from_is_err_and}
use Rattle.capnp_frame.specs.Prelude.{KeepsLimit, IfKnown, MessageFound}
use Rattle.capnp_frame.proofs.sources.ProvidedBufferReaderOutcomeLemmas.{reads_into, fails_into}
use Rattle.capnp_frame.proofs.slices.ZeroingPaddingKeepsMessageLemmas.{padding_zeroed, zeroed_begins}
use Rattle.capnp_frame.proofs.serialize.framed.try_read_framed_into.Goals as goal

pub returns-in_err-info : goal.returns-in_err-info
returns-in_err-info g c =
    let reported = c.in_err-info.ensures.asks in
    let p = err_from_is_err_and c.from_residual.result c.from_residual.ensures.1 in
    rw (p.1, p.2) (record {
      reads = fails_into c.args.rules.padding g.R.Read g.met.R.Read.lawful _ _ c.args.rules.limit_in_words (length c.args.buffer.now) _
          reported.errors reported.end reported.short reported.kinds reported.asked.failed reported.asked.advances;
      encoding = tt;
      room = tt;
    })

pub returns : goal.returns
returns g c =
    let reported = c.in_ok-info.ensures in
    let message = rw c.in-Some.is at reported.message in
    let holds = message.holds in
    let size = c.table_len-segment_table_length_bytes.ensures in
    let few = holds.table.few in
    let zeros = c.fill.ensures.after (λ y e. e) in
    let zero = padding_zeroed c.read_into.new.buffer c.fill.new.self c.in-Some.info.segments_count _ _ holds refl (omega arith) (search (rules, zeros)) in
    let rule = c.args.rules.padding in
    let limit = c.args.rules.limit_in_words in
    record {
      reads = reads_into rule g.R.Read g.met.R.Read.lawful _ _ limit (length c.args.buffer.now) _
          c.in-Some.info.segments_count _ zero.holds refl (search rules)
          (subst (λ l. KeepsLimit l limit) (sym zero.lengths_are) message.within)
          (subst (λ m. IfKnown (g.R.Read.unread c.args.source.now) (g.R.Read.unread c.read_into.new.source) (MessageFound rule g.R.Read.gives m)) (sym zero.segments_are) message.found)
          (λ few. (reported.asks.short few).1) reported.asks.asked.advances;
      encoding = zeroed_begins c.read_into.new.buffer _ c.in-Some.info.segments_count _ _ zero size message.total_is;
      room = search rules;
    }
