-- The table is written as its chunks, once it is filled.
use Rattle.std.proofs.Common.{rules, ◌≡◌, ◌∙◌, length}
use Rattle.std.proofs.lemmas.List.{take_at}
use Rattle.capnp_frame.specs.Prelude.{table_size, TableMemoryError}
use Rattle.capnp_frame.proofs.sinks.GrantedChunkLemmas.{granted_as}
use Rattle.capnp_frame.proofs.sinks.ChunkWritesUntilFailureLemmas.{writes_chunks}
use Rattle.capnp_frame.proofs.serialize.writing.write_table.Goals as goal

pub returns-then-count-lt4-clause-writes : goal.returns-then-count-lt4-clause-writes
returns-then-count-lt4-clause-writes g c = writes_chunks g.W.Write _ _ _ _ c.write_in_parts.result (rw c.fill_table.ensures at c.write_in_parts.ensures.writes)

pub returns-clause-writes : goal.returns-clause-writes
returns-clause-writes g c =
    let long : length c.fill_table-2.new.table ≡ c.in_ok-table.table.len = search rules in
    let filled = c.deref.ensures.value ∙ take_at _ _ _ long ∙ c.fill_table-2.ensures in
    writes_chunks g.W.Write _ _ _ _ c.write_in_parts-2.result (rw filled at c.write_in_parts-2.ensures.writes)

-- the table's bytes are granted

pub returns-then-count-lt4-clause-granted : goal.returns-then-count-lt4-clause-granted
returns-then-count-lt4-clause-granted g c =
    let segments = g.S.ReaderSegments.segments c.args.segments.now in
    let long : length c.fill_table.new.table ≡ table_size (length segments) = search rules in
    granted_as g.W.Write.grants _ _ (length c.fill_table.new.table) (table_size (length segments)) (TableMemoryError segments) c.write_in_parts.result long c.write_in_parts.ensures.granted

pub returns-clause-granted : goal.returns-clause-granted
returns-clause-granted g c =
    let segments = g.S.ReaderSegments.segments c.args.segments.now in
    let long : length c.deref.result.now ≡ table_size (length segments) = search rules in
    granted_as g.W.Write.grants _ _ (length c.deref.result.now) (table_size (length segments)) (TableMemoryError segments) c.write_in_parts-2.result long c.write_in_parts-2.ensures.granted
