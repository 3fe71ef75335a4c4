-- The lengths are those that the table declares.
use Rattle.std.proofs.Common.{◌≡◌, ◌*◌, ◌/◌, ◌-◌, length, inr, rules, arith}
use Rattle.std.proofs.lemmas.Result.{on_ok_weaker, IfErr-weaker}
use Rattle.capnp_frame.specs.Prelude.{table_size}
use Rattle.capnp_frame.proofs.sources.JoinedCallsAdvanceSourceLemmas.{passed_on}
use Rattle.capnp_frame.proofs.errors.ReaderErrorLineLemmas.{others_error, complete_error, complete_kind, source_kind}
use Rattle.capnp_frame.proofs.tables.TableFromTwoRequestsLemmas.{rest_found}
use Rattle.capnp_frame.proofs.serialize.stream_table.read_lengths_by.Goals as goal

pub returns-in_err-complete_table : goal.returns-in_err-complete_table
returns-in_err-complete_table g c =
    let is = c.from_residual.ensures.1 in
    let size : length c.complete_table.new.table ≡ table_size (length c.args.indices.now) = search rules in
    let some = c.requires.accepted.some in
    let others : length c.complete_table.new.table - 8 ≡ 8 * (length c.args.indices.now / 2) = omega arith in
    let reported = c.in_err-complete_table.ensures in
    record {
      table = search rules;
      ranges = search rules;
      bound = search rules;
      each = search rules;
      within = search rules;
      errors = passed_on _ _ is (others_error c.args.rules.now.padding g.R.Read.gives g.R.Read.refuses _ c.args.rules.now.limit_in_words _ c.args.first.now
          (length c.args.indices.now) _ _ reported.asked.advances.tail (rw others at reported.errors));
      kinds = passed_on _ _ is (source_kind c.args.rules.now.padding g.R.Read.refuses _ _ _ reported.errors);
      asked = search rules;
    }

pub returns : goal.returns
returns g c =
    let word = c.args.first.now in
    let table = c.complete_table.new.table in
    let done = c.in_ok-complete_table.ensures in
    let reported = c.fill_lengths.ensures in
    let read = c.fill_lengths.result in
    let size : length table ≡ table_size (length c.fill_lengths.new.indices) = search rules in
    record {
      table = on_ok_weaker read (λ kept. rw reported.declared (rest_found c.args.rules.now.padding g.R.Read.gives word table _ _ _ done.front size reported.tells kept done.others)) reported.padding;
      ranges = reported.ranges;
      bound = reported.bound;
      each = on_ok_weaker read (λ kept. rw reported.declared reported.tells.lengths.each) reported.padding;
      within = reported.within;
      errors = IfErr-weaker read _ _ (λ error met. inr (complete_error c.args.rules.now.padding g.R.Read.gives g.R.Read.refuses c.args.rules.now.limit_in_words error.kind word table _ _ _
          done.front size done.others met)) reported.errors;
      kinds = IfErr-weaker read _ _ (λ error met. (complete_kind c.args.rules.now.padding g.R.Read.refuses c.args.rules.now.limit_in_words error.kind table met).0) reported.errors;
      asked = record {
        failed = IfErr-weaker read _ _ (λ error met device. absurd ((complete_kind c.args.rules.now.padding g.R.Read.refuses c.args.rules.now.limit_in_words error.kind table met).1 device)) reported.errors;
        advances = c.complete_table.ensures.asked.advances;
      };
    }
