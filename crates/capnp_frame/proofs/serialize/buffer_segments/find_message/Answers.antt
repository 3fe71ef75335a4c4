-- The table is read as from a stream.
use Rattle.std.proofs.Common.{inr}
use Rattle.std.proofs.lemmas.Result.{err_from_is_err_and}
use Rattle.capnp_frame.proofs.slices.SliceOutcomeAfterTableReadLemmas.{slice_error, slice_cut, slice_holds}
use Rattle.capnp_frame.proofs.serialize.buffer_segments.find_message.Goals as goal

pub returns-in_err-indices-clause-errors : goal.returns-in_err-indices-clause-errors
returns-in_err-indices-clause-errors c =
    let p = err_from_is_err_and c.from_residual.result c.from_residual.ensures.1 in
    rw (p.1, p.2) (slice_error c.args.empty c.args.rules.padding c.args.rules.limit_in_words _ c.args.bytes.now _ c.in_err-indices.ensures.asks.asked.failed
    (rw c.empty-spare.ensures at c.in_err-indices.ensures.asks.errors))

pub returns-then-rest-total-clause-errors : goal.returns-then-rest-total-clause-errors
returns-then-rest-total-clause-errors c =
    let table = rw c.in-Some.is at c.in_ok-indices.ensures.found in
    let accepts = rw c.in-Some.is at c.in_ok-indices.ensures.within in
    rw c.from_kind-then-rest-total.ensures (inr
    (slice_cut c.args.empty c.args.rules.padding c.args.bytes.now c.in-Some.indices _ c.args.rules.limit_in_words c.total_words-total.result table
    accepts c.total_words-total.ensures c.if-rest-total.true))

pub returns-clause-holds : goal.returns-clause-holds
returns-clause-holds c =
    let table = rw c.in-Some.is at c.in_ok-indices.ensures.found in
    let accepts = rw c.in-Some.is at c.in_ok-indices.ensures.within in
    (slice_holds c.args.rules.padding c.args.bytes.now c.in-Some.indices _ c.args.rules.limit_in_words c.total_words-total.result table accepts c.total_words-total.ensures c.if-rest-total.false).0

pub returns-clause-lengths : goal.returns-clause-lengths
returns-clause-lengths c =
    let table = rw c.in-Some.is at c.in_ok-indices.ensures.found in
    let accepts = rw c.in-Some.is at c.in_ok-indices.ensures.within in
    (slice_holds c.args.rules.padding c.args.bytes.now c.in-Some.indices _ c.args.rules.limit_in_words c.total_words-total.result table accepts c.total_words-total.ensures c.if-rest-total.false).1

pub returns-clause-padding : goal.returns-clause-padding
returns-clause-padding c =
    let table = rw c.in-Some.is at c.in_ok-indices.ensures.found in
    let accepts = rw c.in-Some.is at c.in_ok-indices.ensures.within in
    (slice_holds c.args.rules.padding c.args.bytes.now c.in-Some.indices _ c.args.rules.limit_in_words c.total_words-total.result table accepts c.total_words-total.ensures c.if-rest-total.false).2
