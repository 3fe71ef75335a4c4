-- The table that is read is at the front of the buffer.
use Rattle.std.proofs.Common.{Some, length, arith, rules}
use Rattle.capnp_frame.proofs.sources.JoinedCallsAdvanceSourceLemmas.{passed_on, Asked-err}
use Rattle.capnp_frame.proofs.sources.JoinedReaderStepOutcomesLemmas.{asks_found_into}
use Rattle.capnp_frame.proofs.errors.ReaderErrorLineLemmas.{rest_met, provided_reader_kind}
use Rattle.capnp_frame.proofs.tables.TableFromTwoRequestsLemmas.{table_found}
use Rattle.capnp_frame.proofs.sources.ProvidedBufferReaderOutcomeLemmas.{table_put}
use Rattle.capnp_frame.proofs.serialize.provided_stream.read_table_into.Goals as goal

pub returns-in_err-total-clause-asks : goal.returns-in_err-total-clause-asks
returns-in_err-total-clause-asks g c =
    let first = rw c.in-Some.is at c.in_ok-first.ensures.found in
    let is = c.from_residual-in_err-total.ensures.1 in
    record {
      none = search rules;
      short = search rules;
      errors = passed_on _ _ is
          (rest_met c.args.rules.padding g.met.R.Read.lawful _ c.args.rules.limit_in_words (Some (length c.args.buffer.now)) _ _ _ _ c.in-Some.first
          c.in_ok-count.count (λ too_short. absurd (omega arith)) first c.in_ok-count.ensures.accepted c.in_err-total.ensures.errors);
      kinds = passed_on _ _ is (provided_reader_kind c.args.rules.padding g.R.Read.refuses _ c.in_err-total.ensures.kinds);
      end = search rules;
      asked = Asked-err (g.met.R.Read.keeps.transitive _ _ _) is c.read_first.ensures.asked.advances c.in_err-total.ensures.asked;
    }

pub returns-clause-table : goal.returns-clause-table
returns-clause-table g c =
    let first = rw c.in-Some.is at c.in_ok-first.ensures.found in
    let reported = c.in_ok-total.ensures in
    let put = table_put c.args.buffer.now c.read_total.new.table c.in_ok-count.count c.table_len-size.result reported.tells (search rules) in
    record {
      found = rw (← put.lengths_are) (table_found c.args.rules.padding g.R.Read.gives c.in-Some.first _ _ _ _ first reported.found);
      tells = put.tells;
      total_is = rw (← put.lengths_are) reported.total;
      within = rw (← put.lengths_are) reported.within;
    }

pub returns-clause-asks : goal.returns-clause-asks
returns-clause-asks g c = asks_found_into g.R.Read c.args.rules.padding _ _ _ _ _ _ (λ few. absurd (omega arith)) (g.met.R.Read.keeps.transitive _ _ _)
    c.read_first.ensures.asked.advances c.read_total.ensures.asked.advances
