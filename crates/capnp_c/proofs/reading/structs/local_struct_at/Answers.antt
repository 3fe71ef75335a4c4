-- The struct is the object that was found.
use Rattle.capnp_c.specs.Entering.{pointer_among}
use Rattle.capnp_c.proofs.in_place.EnteredObjectReadLemmas.{struct_there, object_takes_off}
use Rattle.capnp_c.proofs.reading.structs.local_struct_at.Goals as goal

pub returns : goal.returns
returns c =
    let bytes = c.args.segments.now.bytes.now in
    let p = pointer_among c.args.segments.now c.args.reader.now c.args.pointer.now in
    let entered = c.in_ok-entered.entered in
    let enters = c.in_ok-entered.ensures in
    let read = c.in_ok-fields.ensures in
    (struct_there p bytes entered read.0 c.in_ok-fields.fields enters read.1 read.2, object_takes_off p bytes entered enters)
