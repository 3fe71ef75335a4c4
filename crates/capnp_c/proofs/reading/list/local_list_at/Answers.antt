-- The list is the object that was found.
use Rattle.std.proofs.Common.{subst}
use Rattle.capnp_c.specs.Entering.{pointer_among, Enters}
use Rattle.capnp_c.proofs.in_place.EnteredObjectReadLemmas.{object_takes_off}
use Rattle.capnp_c.proofs.reading.list.local_list_at.Goals as goal

pub elements_of-requires : goal.elements_of-requires
elements_of-requires c =
    let p = pointer_among c.args.segments.now c.args.reader.now c.args.pointer.now in
    (p, subst (λ b. Enters p b c.in_ok-entered.entered) c.requires c.in_ok-entered.ensures)

pub returns : goal.returns
returns c =
    let p = pointer_among c.args.segments.now c.args.reader.now c.args.pointer.now in
    let entered = c.in_ok-entered.entered in
    let enters = subst (λ b. Enters p b entered) c.requires c.in_ok-entered.ensures in
    (c.in_ok-list.ensures p enters, object_takes_off p c.args.bytes.now entered enters)
