-- One table is found, and described.
use Rattle.capnp_frame.proofs.slices.UniqueTableInfoOfMessageLemmas.{describes_found, describes_none}
use Rattle.capnp_frame.proofs.serialize.segment_table_info.describes.Goals as goal

pub returns-in-Ok : goal.returns-in-Ok
returns-in-Ok g c =
    let bytes = g.T.AsBytes.bytes c.args.buffer.now in
    let holds = rw c.as_bytes.ensures at c.in-Ok.ensures.holds in
    let total = rw c.as_bytes.ensures at c.in-Ok.ensures.total in
    describes_found bytes c.in-Ok.found c.args.info.now c.has_same_numbers.result c.has_same_numbers.ensures holds c.in-Ok.ensures.table total

pub returns-in-Err : goal.returns-in-Err
returns-in-Err g c =
    let met = rw c.as_bytes.ensures at c.in-Err.ensures.errors in
    describes_none c.in-Err.field-0.kind (g.T.AsBytes.bytes c.args.buffer.now) c.args.info.now met
