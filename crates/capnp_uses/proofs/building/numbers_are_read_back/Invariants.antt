-- The numbers so far are the first ones of the list.
use Rattle.std.proofs.Common.{◌≡◌, take}
use Rattle.capnp_wire.specs.Prelude.{numbers_of}
use Rattle.capnp_uses.proofs.building.numbers_are_read_back.Given as goal

abbrev pub invariant-loop-index : goal.invariant-loop-index
invariant-loop-index g l = l.numbers.items ≡ take l.index (numbers_of 5 l.list)
