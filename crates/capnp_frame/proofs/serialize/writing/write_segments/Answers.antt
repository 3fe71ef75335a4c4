-- The table's chunks, and then the segments, where there are no more than a reader accepts.
use Rattle.std.proofs.Common.{inr, ◌*◌, ◌≤◌, length, arith}
use Rattle.std.proofs.lemmas.Result.{err_from_is_err_and}
use Rattle.capnp_frame.specs.Prelude.{lengths, table_size, table_chunks, serialized_words, TableMemoryError, UnwrittenError}
use Rattle.std.specs.List.{concat}
use Rattle.capnp_frame.proofs.sinks.GrantedChunkLemmas.{granted_first, granted_after, granted_words}
use Rattle.capnp_frame.proofs.sinks.ChunkWritesUntilFailureLemmas.{front_fails, writes_after, writes_chunks, few_written, many_segments_error}
use Rattle.capnp_frame.proofs.serialize.writing.write_segments.Goals as goal

pub returns-in_err-check_count : goal.returns-in_err-check_count
returns-in_err-check_count g c =
    let p = err_from_is_err_and c.from_residual.result c.from_residual.ensures.1 in
    rw (p.1, p.2) (many_segments_error g.W.Write g.met.W.Write.keeps _ _ _ c.in_err-check_count.ensures.errors)

pub returns-in_err-write_table : goal.returns-in_err-write_table
returns-in_err-write_table g c =
    let p = err_from_is_err_and c.from_residual-in_err-write_table.result c.from_residual-in_err-write_table.ensures.1 in
    let segments = g.S.ReaderSegments.segments c.args.segments.now in
    let parts = front_fails g.W.Write _ _ (table_chunks (lengths segments)) segments _ _ _ (λ early. inr early) c.in_err-write_table.ensures.writes in
    let part : table_size (length segments) ≤ 8 * serialized_words segments = omega arith in
    let granted = granted_first g.W.Write.grants _ _ (table_size (length segments)) (8 * serialized_words segments) _
    (UnwrittenError segments c.in_err-write_table.field-0.0.kind) part (λ (early : TableMemoryError segments c.in_err-write_table.field-0.0.kind). inr early) c.in_err-write_table.ensures.granted in
    rw (p.1, p.2) (few_written g.W.Write _ _ segments _ c.in_ok-check_count.ensures.count.few parts granted)

pub returns : goal.returns
returns g c =
    let segments = g.S.ReaderSegments.segments c.args.segments.now in
    let all = writes_after g.W.Write g.met.W.Write.keeps _ _ _ (table_chunks (lengths segments)) segments c.write_each.result
    c.in_ok-write_table.ensures.writes.written c.write_table.ensures.writes.grows c.write_each.ensures.writes in
    let granted = granted_after g.W.Write.grants _ _ _ (table_size (length segments)) (length (concat segments)) (8 * serialized_words segments) (UnwrittenError segments)
    c.write_each.result (granted_words segments c.requires.whole) c.in_ok-write_table.ensures.granted c.write_each.ensures.granted in
    few_written g.W.Write _ _ segments _ c.in_ok-check_count.ensures.count.few (writes_chunks g.W.Write _ _ _ _ c.write_each.result all) granted
