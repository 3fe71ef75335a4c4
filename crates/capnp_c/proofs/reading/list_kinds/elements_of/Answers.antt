-- The elements are of the kind that is wanted.
use Rattle.capnp_c.proofs.in_place.ListReadAsNumbersOrPointersLemmas.{shown_numbers}
use Rattle.capnp_c.proofs.reading.list_kinds.elements_of.Goals as goal

pub returns-in-Numbers : goal.returns-in-Numbers
returns-in-Numbers c place enters =
    shown_numbers place c.args.bytes.now c.args.entered.now c.in-Numbers.size c.args.wanted c.as_numbers.result enters c.in-Numbers.is c.as_numbers.ensures
