-- Pointers are a word apart, and the first pointers of structs as far as the structs are.
use Rattle.std.proofs.Common.{arith}
use Rattle.capnp_c.proofs.in_place.ListReadAsNumbersOrPointersLemmas.{first_pointers_there, pointers_there_too}
use Rattle.capnp_c.proofs.reading.list_kinds.as_pointers.Goals as goal

pub returns-else-elements-eq0 : goal.returns-else-elements-eq0
returns-else-elements-eq0 c place enters =
    let read = c.in-Some.ensures in
    first_pointers_there place c.args.bytes.now c.args.entered.now c.in-Some.elements read.0 c.bits_of-step.result c.pointer_after-first.result c.list_of.result enters
    read.1 (omega (arith, c.if-elements-eq0.false)) c.bits_of-step.ensures c.pointer_after-first.ensures c.list_of.ensures

pub returns-in-Some-as_pointers : goal.returns-in-Some-as_pointers
returns-in-Some-as_pointers c place enters =
    pointers_there_too place c.args.bytes.now c.args.entered.now c.in-Some-as_pointers.count c.pointer_after.result c.list_of-in-Some-as_pointers.result enters
    c.in-Some-as_pointers.ensures c.pointer_after.ensures c.list_of-in-Some-as_pointers.ensures
