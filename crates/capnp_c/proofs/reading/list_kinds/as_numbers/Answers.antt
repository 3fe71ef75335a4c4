-- Numbers are where the list is, or in the first words of its structs.
use Rattle.std.proofs.Common.{arith, rules}
use Rattle.capnp_layout.specs.Prelude.{code_of}
use Rattle.capnp_wire.specs.UpgradedViews.{IsFirstField}
use Rattle.capnp_c.proofs.in_place.ListReadAsNumbersOrPointersLemmas.{fields_there, numbers_there}
use Rattle.capnp_c.proofs.reading.list_kinds.as_numbers.Goals as goal

pub returns-else-not-is_first_field : goal.returns-else-not-is_first_field
returns-else-not-is_first_field c =
    let read = c.in-Some.ensures in
    let field : IsFirstField (code_of c.args.size) c.in-Some.elements.size.data_words = search rules in
    fields_there c.requires.0 c.args.bytes.now c.args.entered.now c.args.size c.in-Some.elements read.0 c.bits_of-step.result c.nowhere-first.result c.list_of.result c.requires.1
    read.1 field c.bits_of-step.ensures c.list_of.ensures

pub returns-in-Some-count_of : goal.returns-in-Some-count_of
returns-in-Some-count_of c =
    numbers_there c.requires.0 c.args.bytes.now c.args.entered.now c.args.size c.in-Some-count_of.count c.bits.result c.nowhere-first-in-Some-count_of.result c.list_of-in-Some-count_of.result c.requires.1
    c.in-Some-count_of.ensures (λ i. omega (arith, c.type_inv.bytes i)) c.bits.ensures.bits c.list_of-in-Some-count_of.ensures
