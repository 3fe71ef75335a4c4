-- Which test of a complete table fails.
use Rattle.std.proofs.Common.{◌≡◌, length, rules}
use Rattle.capnp_frame.specs.Prelude.{table_size}
use Rattle.capnp_frame.proofs.sources.JoinedCallsAdvanceSourceLemmas.{passed_on}
use Rattle.capnp_frame.proofs.errors.ReaderErrorLineLemmas.{limit_error, padding_error}
use Rattle.capnp_frame.proofs.tables.TableFromTwoRequestsLemmas.{tells_complete}
use Rattle.capnp_frame.proofs.serialize.provided_stream.accepted_total.Goals as goal

pub returns-in_err-check_limit-clause-errors : goal.returns-in_err-check_limit-clause-errors
returns-in_err-check_limit-clause-errors c =
    let size : length c.args.table.now ≡ table_size c.args.count = search rules in
    let tells = tells_complete c.args.table.now c.args.count (search rules) size c.lengths_total-total.ensures.lengths in
    passed_on _ _ c.from_residual.ensures.1
    (limit_error c.args.rules.padding c.args.rules.limit_in_words _ c.args.table.now _ _ tells size c.lengths_total-total.ensures.total c.in_err-check_limit.ensures.errors)

pub returns-in_err-check_padding-clause-errors : goal.returns-in_err-check_padding-clause-errors
returns-in_err-check_padding-clause-errors c =
    let size : length c.args.table.now ≡ table_size c.args.count = search rules in
    let tells = tells_complete c.args.table.now c.args.count (search rules) size c.lengths_total-total.ensures.lengths in
    let rejected = c.in_err-check_padding.ensures.errors in
    passed_on _ _ c.from_residual-in_err-check_padding.ensures.1
    (padding_error c.args.rules.padding c.args.rules.limit_in_words _ c.args.table.now _ tells size (search rules) rejected.1 rejected.2)
