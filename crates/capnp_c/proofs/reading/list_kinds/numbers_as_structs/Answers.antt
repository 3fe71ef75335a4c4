-- A number is the data of its struct.
use Rattle.std.proofs.Common.{arith}
use Rattle.capnp_c.proofs.in_place.NumbersReadAsStructsLemmas.{numbers_as_structs}
use Rattle.capnp_c.proofs.reading.list_kinds.numbers_as_structs.Goals as goal

pub returns : goal.returns
returns c place enters =
    numbers_as_structs place c.args.bytes.now c.args.entered.now c.args.count c.nowhere-first.result c.list_of.result enters c.nowhere-first.ensures
    c.args.size c.bits-bits.result c.requires.numbers (λ i. omega (arith, c.type_inv.bytes i)) c.bits-bits.ensures.bits c.if-bits-eq1.false c.list_of.ensures
