-- The segments are after the table in the buffer.
use Rattle.std.proofs.Common.{◌≡◌, ◌+◌, ◌-◌, ◌*◌, Some, length, inr, arith, rules}
use Rattle.capnp_frame.proofs.sources.JoinedReaderStepOutcomesLemmas.{asks_found_into, asks_failed_into, asks_passed_into}
use Rattle.capnp_frame.proofs.encodings.MessageFoundByRequestsLemmas.{table_not_empty}
use Rattle.capnp_frame.proofs.errors.ReaderErrorLineLemmas.{table_met, source_kind, provided_reader_kind}
use Rattle.capnp_frame.proofs.sources.ProvidedBufferReaderOutcomeLemmas.{segments_too_short, segments_error, body_read}
use Rattle.capnp_frame.proofs.serialize.provided_stream.read_into.Goals as goal

pub returns-in_err-segments_count-clause-asks : goal.returns-in_err-segments_count-clause-asks
returns-in_err-segments_count-clause-asks g c =
    asks_passed_into g.R.Read _ _ c.args.rules.padding _ _ _ _ _ c.from_residual.ensures.1
    (table_met c.args.rules.padding _ g.R.Read.gives g.R.Read.refuses c.args.rules.limit_in_words (Some (length c.args.buffer.now)) _ _ _) c.in_err-segments_count.ensures.asks

pub returns-then-buffer-end-clause-asks : goal.returns-then-buffer-end-clause-asks
returns-then-buffer-end-clause-asks g c =
    let table = rw c.in-Some.is at c.in_ok-segments_count.ensures.table in
    let room = table.tells.room in
    let size = c.table_len-start.ensures in
    record {
      none = search rules;
      short = search rules;
      errors = rw c.from_kind.ensures (inr (segments_too_short c.args.rules.padding g.met.R.Read.lawful c.args.rules.limit_in_words _ _ _ _ _ _ table (omega arith) (omega arith)));
      kinds = search rules;
      end = search rules;
      asked = search rules;
    }

pub returns-in_err-read_chunk-clause-asks : goal.returns-in_err-read_chunk-clause-asks
returns-in_err-read_chunk-clause-asks g c =
    let table = rw c.in-Some.is at c.in_ok-segments_count.ensures.table in
    let size = c.table_len-start.ensures in
    let fill : length c.read_chunk.new.chunk ≡ c.table_len-start.result + 8 * c.in-Some.total - c.table_len-start.result = search rules in
    let failed = c.in_err-read_chunk.ensures.errors in
    asks_failed_into g.R.Read c.args.rules.padding _ _ _ _ _ _ _ (λ few. absurd (omega arith)) (g.met.R.Read.keeps.transitive _ _ _)
    c.from_residual-in_err-read_chunk.ensures.1
    (segments_error c.args.rules.padding g.met.R.Read.lawful _ c.args.rules.limit_in_words _ _ _ _ _ _ _ _ _ table (omega arith) (omega arith)
    c.read_chunk.ensures.asked.advances.tail failed) (provided_reader_kind c.args.rules.padding g.R.Read.refuses _ (source_kind c.args.rules.padding g.R.Read.refuses _ _ _ failed))
    (λ none. absurd (table_not_empty c.args.rules.padding g.R.Read.gives _ _ _ g.met.R.Read.lawful.none_from_nothing table.found none))
    c.read_table_into.ensures.asks.asked.advances c.in_err-read_chunk.ensures.asked

pub returns-clause-message : goal.returns-clause-message
returns-clause-message g c =
    let table = rw c.in-Some.is at c.in_ok-segments_count.ensures.table in
    body_read c.args.rules.padding g.R.Read.gives c.args.rules.limit_in_words c.read_table_into.new.buffer c.read_chunk.new.chunk _ _ _ _ _ _ _ table
    c.table_len-start.ensures (omega arith) (search rules) (omega arith) c.in_ok-read_chunk.ensures.given

pub returns-clause-asks : goal.returns-clause-asks
returns-clause-asks g c =
    asks_found_into g.R.Read c.args.rules.padding _ _ _ _ _ _ (λ few. absurd (omega arith)) (g.met.R.Read.keeps.transitive _ _ _)
    c.read_table_into.ensures.asks.asked.advances c.read_chunk.ensures.asked.advances
