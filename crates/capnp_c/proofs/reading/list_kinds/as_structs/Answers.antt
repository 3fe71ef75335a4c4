-- Structs are the elements after the tag, and pointers are structs of one pointer each.
use Rattle.capnp_c.proofs.in_place.ListReadAsStructsLemmas.{structs_there, pointers_as_structs}
use Rattle.capnp_c.proofs.reading.list_kinds.as_structs.Goals as goal

pub returns-in-Structs : goal.returns-in-Structs
returns-in-Structs c place enters =
    structs_there place c.args.bytes.now c.args.entered.now c.in-Structs.elements c.in-Structs.field-1 c.bits_of-step.result c.pointer_after-first.result c.list_of.result enters
    c.in-Structs.is c.bits_of-step.ensures c.pointer_after-first.ensures c.list_of.ensures

pub returns-in-Pointers : goal.returns-in-Pointers
returns-in-Pointers c place enters =
    pointers_as_structs place c.args.bytes.now c.args.entered.now c.in-Pointers.count c.pointer_after-first-in-Pointers.result c.list_of-in-Pointers.result enters
    c.in-Pointers.is c.pointer_after-first-in-Pointers.ensures c.list_of-in-Pointers.ensures
