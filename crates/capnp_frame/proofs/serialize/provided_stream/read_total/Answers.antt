-- The lengths are those that the table declares.
use Rattle.std.proofs.Common.{◌≡◌, ◌*◌, ◌/◌, ◌-◌, length, inr, rules, arith}
use Rattle.std.proofs.lemmas.Result.{on_ok_weaker, IfErr-weaker}
use Rattle.capnp_frame.specs.Prelude.{table_size}
use Rattle.capnp_frame.proofs.sources.JoinedCallsAdvanceSourceLemmas.{passed_on}
use Rattle.capnp_frame.proofs.errors.ReaderErrorLineLemmas.{others_error, complete_error, complete_kind, source_kind}
use Rattle.capnp_frame.proofs.tables.TableFromTwoRequestsLemmas.{rest_found}
use Rattle.capnp_frame.proofs.serialize.provided_stream.read_total.Goals as goal

pub returns-in_err-complete_table-clause-errors : goal.returns-in_err-complete_table-clause-errors
returns-in_err-complete_table-clause-errors g c =
    let size : length c.complete_table.new.table ≡ table_size c.args.count = search rules in
    let others : length c.complete_table.new.table - 8 ≡ 8 * (c.args.count / 2) = omega arith in
    passed_on _ _ c.from_residual.ensures.1 (others_error c.args.rules.padding g.R.Read.gives g.R.Read.refuses _ c.args.rules.limit_in_words _ c.args.first.now
    c.args.count _ _ c.complete_table.ensures.asked.advances.tail (rw others at c.in_err-complete_table.ensures.errors))

pub returns-in_err-complete_table-clause-kinds : goal.returns-in_err-complete_table-clause-kinds
returns-in_err-complete_table-clause-kinds g c =
    passed_on _ _ c.from_residual.ensures.1 (source_kind c.args.rules.padding g.R.Read.refuses _ _ _ c.in_err-complete_table.ensures.errors)

pub returns-clause-found : goal.returns-clause-found
returns-clause-found g c =
    let done = c.in_ok-complete_table.ensures in
    let reported = c.accepted_total.ensures in
    on_ok_weaker c.accepted_total.result (λ kept. rest_found c.args.rules.padding g.R.Read.gives c.args.first.now c.complete_table.new.table c.args.count _ _ done.front
    (search rules) reported.tells kept done.others) reported.padding

pub returns-clause-errors : goal.returns-clause-errors
returns-clause-errors g c =
    let done = c.in_ok-complete_table.ensures in
    IfErr-weaker c.accepted_total.result _ _ (λ error met. inr (complete_error c.args.rules.padding g.R.Read.gives g.R.Read.refuses c.args.rules.limit_in_words error.kind c.args.first.now
    c.complete_table.new.table c.args.count _ _ done.front (search rules) done.others met)) c.accepted_total.ensures.errors

pub returns-clause-kinds : goal.returns-clause-kinds
returns-clause-kinds g c =
    IfErr-weaker c.accepted_total.result _ _
    (λ error met. (complete_kind c.args.rules.padding g.R.Read.refuses c.args.rules.limit_in_words error.kind c.complete_table.new.table met).0) c.accepted_total.ensures.errors

pub returns-clause-asked : goal.returns-clause-asked
returns-clause-asked g c = record {
  failed = IfErr-weaker c.accepted_total.result _ _
      (λ error met device. absurd ((complete_kind c.args.rules.padding g.R.Read.refuses c.args.rules.limit_in_words error.kind c.complete_table.new.table met).1 device)) c.accepted_total.ensures.errors;
  advances = c.complete_table.ensures.asked.advances;
}
